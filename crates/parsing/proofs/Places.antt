-- The first place of a byte, by what `position` answers. Assumes nothing.
use Rattle.std.proofs.Common.{◌≡◌, refl, sym, ◌∙◌, Bool, true, false, List, [], ◌∷◌, ℕ, zero, suc, ◌+◌, ◌-◌, ◌≤◌, ◌<◌, eqb, length, get_or, take, drop, arith, Some, None, length-drop, subst, cond}
use Rattle.std.specs.List.{position, position_or_len}
use Rattle.std.proofs.lemmas.List.Quantifiers.{position-Some}
use Rattle.std.proofs.lemmas.List.Sums.{fails_before_first}
use borrow.Author.Tests.{eqb-true}
use lib.Seq.{get_or-drop}
use lib.Dec.{ltb}
use borrow.Author.Tests.{ltb-false}
use Rattle.laws.proofs.Basics.Tests.{and_of, not_of}
use Rattle.text.specs.inner.Lines.{lacks, Found}
use Rattle.text.proofs.Lines.Splitting.{lacks_none}

pub lacks_below : (x : ℕ) (bs : List ℕ) (n : ℕ) → n ≤ length bs → ((k : ℕ) → k < n → eqb (get_or bs k 0) x ≡ false) → lacks x (take n bs) ≡ true
unfolding lacks
lacks_below x bs zero h f = refl
lacks_below x [] (suc n) h f = refl
lacks_below x (b ∷ bs) (suc n) h f =
    and_of (not_of (f 0 (omega arith))) (lacks_below x bs n (omega arith) (λ k l. f (suc k) (omega arith)))

module _ (x : ℕ) (bs : List ℕ) (from : ℕ) (h : from < length bs) where
  abbrev left : List ℕ
  left = drop from bs

  pub found_ahead : (n : ℕ) → position (λ b. eqb b x) left ≡ Some n → Found bs from x (from + n)
  found_ahead n e =
      let p = position-Some (λ b. eqb b x) left n 0 e in
      let l = length-drop from bs in
      let m : from + n - from ≡ n = omega arith in
      record {
        low = omega arith;
        high = (let q = p.0 in omega arith);
        clear = subst (λ (k : ℕ). lacks x (take k left) ≡ true) (sym m) (lacks_below x left n (let q = p.0 in omega arith) p.2);
        there = λ _. sym (get_or-drop from bs n 0) ∙ eqb-true (get_or left n 0) x p.1;
      }

  none_there : (t : Bool) (n : ℕ) → cond t (Some n) None ≡ None → t ≡ false
  none_there true n e = cc
  none_there false n e = refl

  pub found_nowhere : position (λ b. eqb b x) left ≡ None → Found bs from x (length bs)
  found_nowhere e =
      let t = none_there (ltb (position_or_len (λ b. eqb b x) left) (length left)) (position_or_len (λ b. eqb b x) left) e in
      let k = ltb-false (position_or_len (λ b. eqb b x) left) (length left) t in
      let l = length-drop from bs in
      record {
        low = omega arith;
        high = omega arith;
        clear = lacks_below x left (length bs - from) (omega arith) (λ i j. fails_before_first (λ b. eqb b x) left i 0 (omega arith));
        there = λ p. absurd (omega arith);
      }

pub found_end : (x : ℕ) (bs : List ℕ) (from : ℕ) → length bs ≤ from → Found bs from x from
found_end x bs from h =
    record { low = omega arith; high = omega arith; clear = lacks_none x bs from; there = λ p. absurd (omega arith) }
