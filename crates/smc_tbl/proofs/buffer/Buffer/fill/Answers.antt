use native.Mathlib.Numerals.{unary_clauses}
use Rattle.std.proofs.Common.{◌∙◌, ◌-◌}
use Rattle.smc_tbl.proofs.Kept.{Keeps-filled}
use Rattle.smc_tbl.proofs.buffer.Buffer.fill.Goals as goal

pub returns-clause-kept : goal.returns-clause-kept
returns-clause-kept g c =
    let inside = c.self.inside in
    let read = c.in_ok-count.ensures in
    simp unary_clauses (Keeps-filled _ _ c.read_behind.new.bytes c.args.self.now (inside.end - inside.start) c.in_ok-count.count (read.front ∙ c.move_to_front.ensures ∙ c.self.view_is) read.piece)
