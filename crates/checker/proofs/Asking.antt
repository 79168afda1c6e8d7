-- What `any`, `all` and `position` of an iterator answer, where the closure computes a test of what each item shows: that of the whole list. Assumes nothing.
use mathlib.Core.Path.{◌≡◌, refl, sym}
use mathlib.Core.Bool.{Bool, true, false, ◌||◌, ◌&&◌}
use mathlib.Core.List.{List, [], ◌∷◌}
use Prim.Native.Nat.{ℕ, zero, suc, ◌<◌}
use native.Mathlib.Omega.{arith}
use lib.ListN.{length}
use denote.Param.Members.{Mut}
use Rattle.std.proofs.Common.{MatchOption, Option, None, Some}
use Rattle.std.specs.Bool.{MatchBool}
use Rattle.std.specs.Fn.{Called}
use Rattle.std.specs.Iterator.{YieldsThen}
use Rattle.std.specs.List.{FoldsTo, AllWithin, HoldsAt}
use Rattle.std.proofs.lemmas.Iterator.{YieldsList, cases_from_any, cases_from_all, IsFirst-from_position}

-- some element passes; each does
unfoldable pub some : {A : Type 0} → (A → Bool) → List A → Bool
some p [] = false
some p (x ∷ xs) = p x || some p xs

unfoldable pub each : {A : Type 0} → (A → Bool) → List A → Bool
each p [] = true
each p (x ∷ xs) = p x && each p xs

module _ {A : Type 0} (p : A → Bool) where
  later : {b : Bool} (x : A) (xs : List A) → AllWithin (λ y. p y ≡ b) (x ∷ xs) 0 (length (x ∷ xs)) → AllWithin (λ y. p y ≡ b) xs 0 (length xs)
  later x xs w = λ k d l h. w (suc k) d (omega arith) (omega arith)

  pub some_none : (xs : List A) → AllWithin (λ y. p y ≡ false) xs 0 (length xs) → some p xs ≡ false
  unfolding some
  some_none [] w = refl
  some_none (x ∷ xs) w = let e : p x ≡ false = w 0 x (omega arith) (omega arith) in rw e (some_none xs (later x xs w))

  some_one : (xs : List A) (k : ℕ) → k < length xs → HoldsAt (λ y. p y ≡ true) xs k → some p xs ≡ true
  unfolding some
  some_one [] k h w = absurd (omega arith)
  some_one (x ∷ xs) zero h w = let e : p x ≡ true = w x in rw e refl
  some_one (x ∷ xs) (suc k) h w = rw (some_one xs k (omega arith) w) (or_true (p x))
    where
      or_true : (b : Bool) → (b || true) ≡ true
      or_true true = refl
      or_true false = refl

  each_all : (xs : List A) → AllWithin (λ y. p y ≡ true) xs 0 (length xs) → each p xs ≡ true
  unfolding each
  each_all [] w = refl
  each_all (x ∷ xs) w = let e : p x ≡ true = w 0 x (omega arith) (omega arith) in rw e (each_all xs (later x xs w))

  each_one : (xs : List A) (k : ℕ) → k < length xs → HoldsAt (λ y. p y ≡ false) xs k → each p xs ≡ false
  unfolding each
  each_one [] k h w = absurd (omega arith)
  each_one (x ∷ xs) zero h w = let e : p x ≡ false = w x in rw e refl
  each_one (x ∷ xs) (suc k) h w = rw (each_one xs k (omega arith) w) (and_false (p x))
    where
      and_false : (b : Bool) → (b && false) ≡ false
      and_false true = refl
      and_false false = refl

some_by_cases : {A : Type 0} (p : A → Bool) (r : Bool) (xs : List A) →
    MatchBool r ((k : ℕ) × (k < length xs) × HoldsAt (λ x. p x ≡ true) xs k) (AllWithin (λ x. p x ≡ false) xs 0 (length xs)) → r ≡ some p xs
some_by_cases p true xs (k, h, w) = sym (some_one p xs k h w)
some_by_cases p false xs w = sym (some_none p xs w)

each_by_cases : {A : Type 0} (p : A → Bool) (r : Bool) (xs : List A) →
    MatchBool r (AllWithin (λ x. p x ≡ true) xs 0 (length xs)) ((k : ℕ) × (k < length xs) × HoldsAt (λ x. p x ≡ false) xs k) → r ≡ each p xs
each_by_cases p true xs w = sym (each_all p xs w)
each_by_cases p false xs (k, h, w) = sym (each_one p xs k h w)

module _ {S A B F : Type 0} {steps : S → Option A → S → Type 0} {v : A → B} {g : Mut F (A × Unit {0}) Bool} {s : S} {all : List B} where
  pub any_is : (p : B → Bool) (u : S) (f : F) (r : Bool) →
      ((xs : List A) × (o : Option A) × (j : F) × YieldsThen steps s xs o u × FoldsTo (λ h x q. Called g h (x, tt) false q) f xs j × MatchOption o (r ≡ false) (λ x. (r ≡ true) × ((h : F) × Called g j (x, tt) true h))) →
      YieldsList steps v s all → ((x : A) (b : Bool) (q : F) → Called g f (x, tt) b q → (q ≡ f) × (b ≡ p (v x))) → r ≡ some p all
  any_is p u f r ran y k =
      some_by_cases p r all (cases_from_any u f r (λ x. p x ≡ true) (λ x. p x ≡ false) ran y (λ x q h. sym (k x true q h).1) (λ x q h. ((k x false q h).0, sym (k x false q h).1)))

  pub all_is : (p : B → Bool) (u : S) (f : F) (r : Bool) →
      ((xs : List A) × (o : Option A) × (j : F) × YieldsThen steps s xs o u × FoldsTo (λ h x q. Called g h (x, tt) true q) f xs j × MatchOption o (r ≡ true) (λ x. (r ≡ false) × ((h : F) × Called g j (x, tt) false h))) →
      YieldsList steps v s all → ((x : A) (b : Bool) (q : F) → Called g f (x, tt) b q → (q ≡ f) × (b ≡ p (v x))) → r ≡ each p all
  all_is p u f r ran y k =
      each_by_cases p r all (cases_from_all u f r (λ x. p x ≡ true) (λ x. p x ≡ false) ran y (λ x q h. ((k x true q h).0, sym (k x true q h).1)) (λ x q h. sym (k x false q h).1))

  -- the number of the first that passes; no element passes where there is none
  pub position_is : (p : B → Bool) (u : S) (f : F) (r : Option ℕ) →
      ((xs : List A) × (o : Option A) × (j : F) × YieldsThen steps s xs o u × FoldsTo (λ h x q. Called g h (x, tt) false q) f xs j × MatchOption o (r ≡ None) (λ x. (r ≡ Some (length xs)) × ((h : F) × Called g j (x, tt) true h))) →
      YieldsList steps v s all → ((x : A) (b : Bool) (q : F) → Called g f (x, tt) b q → (q ≡ f) × (b ≡ p (v x))) →
      MatchOption r (some p all ≡ false) (λ i. (i < length all) × HoldsAt (λ x. p x ≡ true) all i)
  position_is p u f r ran y k =
      go r (IsFirst-from_position u f r (λ x. p x ≡ true) (λ x. p x ≡ false) ran y (λ x q h. sym (k x true q h).1) (λ x q h. ((k x false q h).0, sym (k x false q h).1)))
    where
      go : (o : Option ℕ) → MatchOption o (AllWithin (λ x. p x ≡ false) all 0 (length all)) (λ i. (i < length all) × HoldsAt (λ x. p x ≡ true) all i × AllWithin (λ x. p x ≡ false) all 0 i) → MatchOption o (some p all ≡ false) (λ i. (i < length all) × HoldsAt (λ x. p x ≡ true) all i)
      go None w = some_none p all w
      go (Some i) w = (w.0, w.1)
