use Rattle.std.proofs.Common.{◌≡◌, ℕ, ◌<◌, Vec, Global, get_or, length, sym, subst, ap, ◌∙◌}
use Rattle.std.specs.Prelude.{Some, slice_get}
use Rattle.std.proofs.lemmas.Option.{slice_get_read}
use Rattle.atomic_table.specs.Table.{Me}
use Rattle.smc_shape.specs.Layout.{slots_of}
use Rattle.smc_core.specs.declared.local.Local.{Local}
use Rattle.smc_region.specs.declared.law.View.{View}
use Rattle.smc_region.specs.Callers.{Caller}
use Rattle.smc_region.specs.Reached.{From}
use Rattle.smc_region.specs.Views.{one, sole}
use Rattle.smc_region.proofs.CursorLaws.{cursor_within}
use Rattle.smc_region.proofs.section.Section.cursor.Goals as goal

pub returns-clause-within : goal.returns-clause-within
returns-clause-within c =
    let x = c.self.inside in
    let v : View = x.seat.me.0 in
    let l : Local = sole v.shape v.locals in
    let i = c.self.invariant in
    let from : From (one v.shape x.number l) = subst (λ (m : Me (Unit {0}) View). From m.0) i.0.is i.1 in
    let r : ℕ = c.index.result.now in
    let items : c.deref.result.now.items ≡ l.cursors = ap (λ (v : Vec ℕ Global). v.items) c.deref.ensures ∙ i.5 in
    let read : r ≡ get_or l.cursors c.args.c r = cc in
    let many : length l.cursors ≡ length v.shape.colls = ap length (sym i.5) ∙ i.6 in
    let low : c.args.c < length v.shape.colls = subst (λ (k : Caller). c.args.c < length k.shape.colls) (sym c.self.view_is) c.requires in
    let here : slice_get l.cursors c.args.c ≡ Some r = slice_get_read l.cursors (length v.shape.colls) c.args.c r (sym many) low read in
    subst (λ (k : Caller). c.index.result.now < slots_of k.shape c.args.c) c.self.view_is (cursor_within v.shape x.number l from c.args.c c.index.result.now here low)
