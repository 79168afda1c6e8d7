-- Two tests of which one is to hold, one after the other. Assumes nothing.
use mathlib.Core.Path.{◌≡◌, refl, sym, ◌∙◌}
use mathlib.Core.Bool.{Bool, true, false, ◌||◌}

pub by_first : {a r : Bool} (b : Bool) → r ≡ a → r ≡ true → r ≡ (a || b)
by_first b d h = h ∙ rw (sym d ∙ h) refl

pub by_second : {a b r s : Bool} → r ≡ a → r ≡ false → s ≡ b → s ≡ (a || b)
by_second d h e = rw (sym d ∙ h) e

pub or_assoc : (a b c : Bool) → ((a || b) || c) ≡ (a || (b || c))
or_assoc true b c = refl
or_assoc false b c = refl
