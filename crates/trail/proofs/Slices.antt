-- The four numbers of a candidate as a slice: each stands in the whole list. Assumes nothing.
use mathlib.Core.Path.{◌≡◌, ◌∙◌}
use mathlib.Core.List.{List}
use Prim.Native.Nat.{ℕ, ◌+◌, ◌*◌, ◌-◌, ◌<◌, ◌≤◌}
use native.Mathlib.Omega.{arith}
use lib.ListN.{length, get_or, take, drop}
use Rattle.std.proofs.lemmas.List.{get_or-take, get_or-drop, length-take, length-drop}

module _ (xs : List ℕ) (k i : ℕ) where
  pub four_at : i < 4 → get_or (take (k * 4 + 4 - k * 4) (drop (k * 4) xs)) i 0 ≡ get_or xs (k * 4 + i) 0
  four_at l = get_or-take _ _ i 0 (omega arith) ∙ get_or-drop (k * 4) xs i 0

  pub in_four : i < length (take (k * 4 + 4 - k * 4) (drop (k * 4) xs)) → i < 4
  in_four l = let e = length-take (k * 4 + 4 - k * 4) (drop (k * 4) xs) in omega arith

pub all_four : (xs : List ℕ) (k : ℕ) {n i : ℕ} → k * 4 + 4 ≤ length xs → length (take (k * 4 + 4 - k * 4) (drop (k * 4) xs)) ≤ n → i < 4 → i < n
all_four xs k h l b = let e = length-take (k * 4 + 4 - k * 4) (drop (k * 4) xs) in let f = length-drop (k * 4) xs in omega arith

-- all of them passed
pub end_four : (xs : List ℕ) (k : ℕ) {i : ℕ} → k * 4 + 4 ≤ length xs → length (take (k * 4 + 4 - k * 4) (drop (k * 4) xs)) ≤ i → i ≤ length (take (k * 4 + 4 - k * 4) (drop (k * 4) xs)) → i ≡ 4
end_four xs k h l b = let e = length-take (k * 4 + 4 - k * 4) (drop (k * 4) xs) in let f = length-drop (k * 4) xs in omega arith
