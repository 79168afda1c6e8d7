-- `rings::rows::table` meets its contract: each size has its own table. Assumes nothing.
use mathlib.Core.Path.{◌≡◌, sym, ap, ◌∙◌}
use mathlib.Core.List.{List}
use Prim.Native.Nat.{ℕ}
use native.Mathlib.Omega.{arith}
use Rattle.triangulations.specs.Rings.{rows, numbers}
use Rattle.rings.proofs.Tables.{is_3, is_4, is_5, is_6, is_7}
use Rattle.rings.proofs.rows.table.Goals as goal

-- what is given is the table of the ring's size
given : {n : ℕ} {ns : List ℕ} (k : ℕ) → k ≡ n → numbers (rows n) ≡ ns → ns ≡ numbers (rows k)
given k e t = sym (ap (λ (x : ℕ). numbers (rows x)) e ∙ t)

pub returns-in-3 : goal.returns-in-3
returns-in-3 c = given c.args.k c.in-3.is is_3

pub returns-in-4 : goal.returns-in-4
returns-in-4 c = given c.args.k c.in-4.is is_4

pub returns-in-5 : goal.returns-in-5
returns-in-5 c = given c.args.k c.in-5.is is_5

pub returns-in-6 : goal.returns-in-6
returns-in-6 c = given c.args.k c.in-6.is is_6

pub returns-in_default : goal.returns-in_default
returns-in_default c =
    let e : c.args.k ≡ 7 = omega arith in
    given c.args.k e is_7
