-- The blocks before `i` are listed.
use Rattle.under_call.specs.Lists.{Listed}
use Rattle.under_call.proofs.list_children.Given as goal

abbrev pub invariant-loop-i : goal.invariant-loop-i
invariant-loop-i l = Listed l.parents l.sequences 0 l.initial.first l.initial.next → Listed l.parents l.sequences l.i l.first l.next
