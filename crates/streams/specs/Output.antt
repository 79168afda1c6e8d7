-- What a write that fails leaves. Assumes nothing: these are definitions.
use Rattle.std.specs.Prelude.{List, ℕ, ◌≤◌, length, take, Option}
use Rattle.std.specs.Io.KnownBytes.{Appends}

-- the writer got some of the first bytes, maybe none, and nothing else, where its bytes are known
abbrev pub GavePart : (old new : Option (List ℕ)) → (bytes : List ℕ) → Type 0
GavePart old new bs = (n : ℕ) × (n ≤ length bs) × Appends old new (take n bs)
