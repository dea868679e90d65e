-- Steps that a call took.
use Rattle.std.proofs.Common.{◌≡◌, ℕ, ◌+◌, ◌≤◌, ◌<◌, ap, arith}
use Rattle.smc_shape.specs.Layout.{Layout}
use Rattle.smc_core.specs.declared.local.Local.{Local}
use Rattle.smc_core.specs.declared.op.Op.{Op}
use Rattle.smc_core.specs.declared.word.Word.{Word}
use Rattle.smc_region.specs.Reached.{Took, TookIn}

-- a step is the first of those behind so many
pub took-here : (shape : Layout) (pass last : ℕ) (before next : Local) (op : Op) (seen : Word) → Took shape pass before op seen next → next.steps ≤ last
    → TookIn shape pass before.steps last op seen
took-here shape pass last before next op seen took within =
    let one : next.steps ≡ before.steps + 1 = ap (λ (l : Local). l.steps) took.leads in
    record { before = before; next = next; took = took; since = omega arith; until = omega (arith, one, within) }

-- what a part of a call took, the call took
pub took-within : (shape : Layout) (pass first first' last' last : ℕ) (op : Op) (seen : Word) → first ≤ first' → last' ≤ last
    → TookIn shape pass first' last' op seen → TookIn shape pass first last op seen
took-within shape pass first first' last' last op seen since until one =
    let low = one.since in let high = one.until in
    record { before = one.before; next = one.next; took = one.took; since = omega (arith, since, low); until = omega (arith, until, high) }
