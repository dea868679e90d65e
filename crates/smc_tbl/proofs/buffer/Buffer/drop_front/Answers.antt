use Rattle.std.proofs.Common.{◌≤◌, ◌-◌, length, take, drop, arith, length-take, length-drop}
use Rattle.smc_tbl.proofs.Kept.{part-drop}
use Rattle.smc_tbl.proofs.buffer.Buffer.drop_front.Goals as goal

pub returns : goal.returns
returns c =
    let inside = c.self.inside in
    let within : c.args.count ≤ length (take (inside.end - inside.start) (drop inside.start inside.bytes)) = rw c.self.view_is c.requires in
    rw (← c.self.view_is) (part-drop inside.bytes inside.start inside.end c.args.count (omega (arith, simp (length-take, length-drop) at within)))
