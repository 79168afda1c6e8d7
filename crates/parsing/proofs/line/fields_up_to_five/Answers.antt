-- `parsing::line::fields_up_to_five` meets its contract. Assumes nothing.
use Rattle.std.proofs.Common.{rules, sym, subst, ◌∙◌, arith}
use mir.Facts.{to_z-of_z}
use mir.Syntax.{w32}
use Rattle.text.specs.Text.{fields_of}
use Rattle.parsing.specs.Parsing.{UpToFiveRead}
use Rattle.parsing.proofs.FieldLoop.{over_five, bad_of_five, all_of_five, field_taken}
use Rattle.parsing.proofs.line.fields_up_to_five.Goals as goal

pub returns-in_err-values : goal.returns-in_err-values
returns-in_err-values c =
    subst (UpToFiveRead c.args.signed (fields_of c.args.bytes.now)) (sym c.from_residual.ensures)
    (bad_of_five c.loop-i.invariant.1 c.find-stop.result c.find-stop.ensures c.loop-i.invariant.0 c.in_err-values.ensures)

pub returns-then-stop-bytes : goal.returns-then-stop-bytes
returns-then-stop-bytes c =
    all_of_five
    (field_taken c.loop-i.invariant.1 c.find-stop.result c.find-stop.ensures c.loop-i.invariant.0 (omega arith) _ c.in_ok-values.ensures.0
    (let t = rw c.in_ok-values.was at c.field_in.type_inv in to_z-of_z {w = w32} (record { sfits = t.1.1.1.1.0.1 }) ∙ c.in_ok-values.ensures.1))
    (omega arith) (omega arith)

pub loop-i-preserved : goal.loop-i-preserved
loop-i-preserved c = (
  search rules,
  field_taken c.loop-i.invariant.1 c.find-stop.result c.find-stop.ensures c.loop-i.invariant.0 (omega arith) _ c.in_ok-values.ensures.0
      (let t = rw c.in_ok-values.was at c.field_in.type_inv in to_z-of_z {w = w32} (record { sfits = t.1.1.1.1.0.1 }) ∙ c.in_ok-values.ensures.1),
)

pub returns : goal.returns
returns c = over_five c.loop-i.invariant.1 (omega arith) c.loop-i.invariant.0
