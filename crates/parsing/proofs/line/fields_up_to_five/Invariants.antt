-- `parsing::line::fields_up_to_five` meets its contract. The loop's invariant: the fields read so far and those left make up all, and something is left. Assumes nothing.
use Rattle.std.proofs.Common.{◌≤◌, length}
use Rattle.parsing.proofs.FieldLoop.{SoFar}
use Rattle.parsing.proofs.line.fields_up_to_five.Given as goal

abbrev pub invariant-loop-i : goal.invariant-loop-i
invariant-loop-i l = (l.at ≤ length l.bytes) × SoFar 5 l.signed l.bytes l.values l.i l.at
