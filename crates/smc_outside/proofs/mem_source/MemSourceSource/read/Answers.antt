use Rattle.std.proofs.Common.{◌≡◌, ◌∙◌, ap, drop}
use Rattle.std.proofs.lemmas.List.{drop-drop}
use Rattle.smc_outside.proofs.PieceLaws.{ReadConsumes-copy}
use Rattle.smc_outside.proofs.mem_source.MemSourceSource.read.Goals as goal

pub returns-clause-bytes : goal.returns-clause-bytes
returns-clause-bytes c =
    let at = c.self.inside.at in
    let copy = c.copy_front-count.ensures in
    let rest : c.split_at.result.1.now ≡ drop at c.self.inside.bytes.items = c.split_at.ensures.back ∙ ap (drop at) c.deref.ensures.value in
    rw (← c.self.view_is, ← drop-drop c.copy_front-count.result at c.self.inside.bytes.items, ← rest)
    (ReadConsumes-copy _ _ _ _ _ c.self.invariant.1 copy.count copy.copied)
