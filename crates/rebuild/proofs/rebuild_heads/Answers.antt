-- The blocks before `i` are done, and the parents are named.
use native.Mathlib.Omega.{arith}
use mathlib.Core.Path.{◌≡◌, sym, ap, ◌∙◌}
use Rattle.rules.specs.Rebuild.{rebuild_heads}
use Rattle.rules.proofs.Search.{in-order-none, in-order-then}
use Rattle.named_parents.specs.Named.{named_parents}
use Rattle.rebuild.proofs.rebuild_heads.Goals as goal

pub loop-i-init : goal.loop-i-init
loop-i-init c = record {
  tables = sym (in-order-none _ _);
  names = c.name_parents.ensures ∙ ap (named_parents _ _) (sym c.name_parents.auto.named);
}

pub loop-i-preserved : goal.loop-i-preserved
loop-i-preserved c =
    let made = c.rebuild_at.ensures c.loop-i.invariant.names in
    record {
      tables = in-order-then _ c.loop-i.i _ _ _ made.0 c.loop-i.invariant.tables;
      names = made.1 ∙ ap (named_parents _ _) (sym c.rebuild_at.auto.named);
    }

pub returns : goal.returns
unfolding rebuild_heads
returns c =
    let e : c.loop-i.i ≡ c.slots-i-end.result = omega arith in
    rw (← c.slots-i-end.ensures, ← e) c.loop-i.invariant.tables
