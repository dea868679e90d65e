use Rattle.std.proofs.Common.{◌≡◌, ℕ, List, Result, Ok, Err, IfOk, map, refl, arith, IfErr, sym, subst}
use Rattle.smc_does.specs.Does.{DoesSome}
use Rattle.smc_types.specs.Tables.{the_tables}
use Rattle.smc_script.specs.Tables.{schema_of}
use Rattle.smc_script.specs.Trees.{command_tree, load, one}
use Rattle.smc_script.specs.declared.command.Command.{Command}
use Rattle.smc_load.specs.declared.fault.LoadFault.{LoadFault}
use Rattle.smc_replies.specs.Commands.{RunsCommand}
use Rattle.smc_replies.specs.Loads.{LoadsBy}
use Rattle.smc_desk.specs.Scenes.{scene_of, seen}
use Rattle.smc_desk.specs.Stops.{LoadStops}
use Rattle.smc_runner.specs.Runs.{PartEnds}
use Rattle.smc_runner.proofs.RunLaws.{no-read, one-ends, one-stops}
use Rattle.smc_runner.proofs.command.run_one.Goals as goal

pub returns-in-Err-clause-ends : goal.returns-in-Err-clause-ends
returns-in-Err-clause-ends g c =
    let files = g.F.Shelf.files c.args.shelf.now in
    let scene = scene_of files c.args.region.now.about.shape c.args.folds.now in
    let kinds = map (λ b. (goal.Fold-dyn g (b.fold.vtable, b.fold.value)).kind b.fold.value) c.args.bench.now.boxes.items in
    let out = g.O.Sink.held c.args.out.now in
    let known = seen c.args.books.now kinds in
    let now = seen c.load_table-pass.new.books kinds in
    let old = c.args.pass in
    let new = c.load_table-pass.result.0 in
    let place = c.in-Load.place in
    let file = c.in-Load.file in
    let line = c.args.numbered.now.line in
    let stops = subst (λ r. IfErr r (λ fault. LoadStops fault (schema_of the_tables place.table) files place file known old new)) c.in-Err.is (c.load_table-pass.ensures.stops kinds) in
    subst (λ (k : Command). PartEnds scene c.end_of.result (one (record { line = line; command = command_tree k })) known now old new out out) (sym c.in-Load.is)
    (one-stops scene c.end_of.result line place file c.in-Err.fault known now old new out c.end_of.ensures stops)

pub returns-in-Ok-clause-ends : goal.returns-in-Ok-clause-ends
returns-in-Ok-clause-ends g c =
    let files = g.F.Shelf.files c.args.shelf.now in
    let scene = scene_of files c.args.region.now.about.shape c.args.folds.now in
    let kinds = map (λ b. (goal.Fold-dyn g (b.fold.vtable, b.fold.value)).kind b.fold.value) c.args.bench.now.boxes.items in
    let known = seen c.args.books.now kinds in
    let now = seen c.load_table-pass.new.books kinds in
    let old = c.args.pass in
    let new = c.load_table-pass.result.0 in
    let before = g.O.Sink.held c.args.out.now in
    let after = g.O.Sink.held c.write_reply.new.out in
    let place = c.in-Load.place in
    let file = c.in-Load.file in
    let done = subst (λ r. IfOk r (λ text. DoesSome old new (λ calls. LoadsBy (schema_of the_tables place.table) files place file known now calls text))) c.in-Ok.is (c.load_table-pass.ensures.done kinds) in
    subst (λ (k : Command). PartEnds scene c.write_reply.result (one (record { line = c.args.numbered.now.line; command = command_tree k })) known now old new before after) (sym c.in-Load.is)
    (one-ends scene c.write_reply.result c.args.numbered.now.line (load place file) known now old new before after c.in-Ok.reply done c.write_reply.ensures.ends)

pub returns-in-Ok-reply : goal.returns-in-Ok-reply
returns-in-Ok-reply g c =
    let files = g.F.Shelf.files c.args.shelf.now in
    let scene = scene_of files c.args.region.now.about.shape c.args.folds.now in
    let known = seen c.args.books.now (map (λ b. (goal.Fold-dyn g (b.fold.vtable, b.fold.value)).kind b.fold.value) c.args.bench.now.boxes.items) in
    let now = seen c.one-pass.new.books (map (λ b. (goal.Fold-dyn g (b.fold.vtable, b.fold.value)).kind b.fold.value) c.one-pass.new.bench.boxes.items) in
    let old = c.args.pass in
    let new = c.one-pass.result.0 in
    let before = g.O.Sink.held c.args.out.now in
    let after = g.O.Sink.held c.write_reply-in-Ok-reply.new.out in
    let command = command_tree c.args.numbered.now.command in
    let status = c.write_reply-in-Ok-reply.result in
    let writes = c.write_reply-in-Ok-reply.ensures.ends in
    let done = subst (λ r. IfOk r (λ text. DoesSome old new (λ calls. RunsCommand scene command known now calls text))) c.in-Ok-reply.is (c.one-pass.ensures.done files) in
    record {
      home = c.one-pass.ensures.home;
      ends = one-ends scene status c.args.numbered.now.line command known now old new before after c.in-Ok-reply.reply done writes;
      cause = c.write_reply-in-Ok-reply.ensures.cause;
      later = c.write_reply-in-Ok-reply.ensures.later;
      read_cause = λ is. absurd (no-read status before after c.in-Ok-reply.reply writes is);
      kept = refl;
      shelf_later = omega arith;
    }
