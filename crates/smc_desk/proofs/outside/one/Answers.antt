use Rattle.std.proofs.Common.{ℕ, List, map, ap, IfOk, refl, sym, subst}
use Rattle.smc_trace.specs.Trace.{CallEnd}
use Rattle.smc_does.specs.Does.{DoesSome}
use Rattle.smc_folds.specs.Kinds.{Kind}
use Rattle.smc_query.specs.Trees.{cond_tree, expr_tree, filter_tree, query_tree}
use Rattle.smc_types.specs.Tables.{the_tables}
use Rattle.smc_script.specs.Tables.{schema_of}
use Rattle.smc_script.specs.Trees.{command_tree}
use Rattle.smc_script.specs.declared.command.Command.{Command}
use Rattle.smc_replies.specs.Books.{object_of}
use Rattle.smc_replies.specs.Commands.{Counts, PacksTable, RunsCommand, objects_line, table_name}
use Rattle.smc_replies.specs.Edits.{DeletesWhere, UpdatesWhere}
use Rattle.smc_replies.specs.Queries.{AnswersQuery}
use Rattle.smc_replies.specs.Objects.{GetsBy, OnObject, RemovesNamed, SetsBy}
use Rattle.smc_desk.specs.Scenes.{scene_of, seen}
use Rattle.smc_desk.proofs.FoldLaws.{drop-run}
use Rattle.smc_desk.proofs.ObjectLaws.{kept-run}
use Rattle.smc_desk.proofs.outside.one.Goals as goal

pub returns-in-Stat-clause-done : goal.returns-in-Stat-clause-done
returns-in-Stat-clause-done g c files =
    let scene = scene_of files c.args.region.now.about.shape c.args.folds.now in
    let known = seen c.args.books.now (map (λ b. (goal.Fold-dyn g (b.fold.vtable, b.fold.value)).kind b.fold.value) c.args.bench.now.boxes.items) in
    let old = c.args.pass in
    let new = c.stat.result.0 in
    let reply = c.stat.result.1 in
    subst (λ (k : Command). IfOk reply (λ text. DoesSome old new (λ calls. RunsCommand scene (command_tree k) known known calls text))) (sym c.in-Stat.is)
    (kept-run (λ (calls : List CallEnd) (text : List ℕ). Counts objects_line c.in-Stat.place.coll calls text) known known old new reply refl c.stat.ensures.done)

pub returns-in-Query-clause-done : goal.returns-in-Query-clause-done
returns-in-Query-clause-done g c files =
    let scene = scene_of files c.args.region.now.about.shape c.args.folds.now in
    let kinds = map (λ b. (goal.Fold-dyn g (b.fold.vtable, b.fold.value)).kind b.fold.value) c.args.bench.now.boxes.items in
    let known = seen c.args.books.now kinds in
    let now = seen c.args.books.now (map (λ b. (goal.Fold-dyn g (b.fold.vtable, b.fold.value)).kind b.fold.value) c.query.new.bench.boxes.items) in
    let old = c.args.pass in
    let new = c.query.result.0 in
    let reply = c.query.result.1 in
    let place = c.in-Query.place in
    subst (λ (k : Command). IfOk reply (λ text. DoesSome old new (λ calls. RunsCommand scene (command_tree k) known now calls text))) (sym c.in-Query.is)
    (kept-run (λ (calls : List CallEnd) (text : List ℕ). AnswersQuery scene.shape scene.folds place.coll (query_tree c.in-Query.asked) kinds calls text) known now old new reply
    (ap (λ (k : List Kind). seen c.args.books.now k) c.query.ensures.kept) c.query.ensures.done)

pub returns-in-Compact-clause-done : goal.returns-in-Compact-clause-done
returns-in-Compact-clause-done g c files =
    let scene = scene_of files c.args.region.now.about.shape c.args.folds.now in
    let known = seen c.args.books.now (map (λ b. (goal.Fold-dyn g (b.fold.vtable, b.fold.value)).kind b.fold.value) c.args.bench.now.boxes.items) in
    let old = c.args.pass in
    let new = c.compact.result.0 in
    let reply = c.compact.result.1 in
    subst (λ (k : Command). IfOk reply (λ text. DoesSome old new (λ calls. RunsCommand scene (command_tree k) known known calls text))) (sym c.in-Compact.is)
    (kept-run (λ (calls : List CallEnd) (text : List ℕ). PacksTable c.in-Compact.place calls text) known known old new reply refl c.compact.ensures.done)

pub returns-in-Get-clause-done : goal.returns-in-Get-clause-done
returns-in-Get-clause-done g c files =
    let scene = scene_of files c.args.region.now.about.shape c.args.folds.now in
    let known = seen c.args.books.now (map (λ b. (goal.Fold-dyn g (b.fold.vtable, b.fold.value)).kind b.fold.value) c.args.bench.now.boxes.items) in
    let old = c.args.pass in
    let new = c.get.result.0 in
    let reply = c.get.result.1 in
    let place = c.in-Get.place in
    subst (λ (k : Command). IfOk reply (λ text. DoesSome old new (λ calls. RunsCommand scene (command_tree k) known known calls text))) (sym c.in-Get.is)
    (kept-run (λ (calls : List CallEnd) (text : List ℕ). OnObject (object_of known.names place.coll c.in-Get.name) (GetsBy (schema_of the_tables place.table)) calls text)
    known known old new reply refl c.get.ensures.done)

pub returns-in-Set-clause-done : goal.returns-in-Set-clause-done
returns-in-Set-clause-done g c files =
    let scene = scene_of files c.args.region.now.about.shape c.args.folds.now in
    let known = seen c.args.books.now (map (λ b. (goal.Fold-dyn g (b.fold.vtable, b.fold.value)).kind b.fold.value) c.args.bench.now.boxes.items) in
    let old = c.args.pass in
    let new = c.set.result.0 in
    let reply = c.set.result.1 in
    let place = c.in-Set.place in
    subst (λ (k : Command). IfOk reply (λ text. DoesSome old new (λ calls. RunsCommand scene (command_tree k) known known calls text))) (sym c.in-Set.is)
    (kept-run (λ (calls : List CallEnd) (text : List ℕ). OnObject (object_of known.names place.coll c.in-Set.name) (SetsBy (schema_of the_tables place.table) c.in-Set.column c.in-Set.value) calls text)
    known known old new reply refl c.set.ensures.done)

pub returns-in-Remove-clause-done : goal.returns-in-Remove-clause-done
returns-in-Remove-clause-done g c files =
    let scene = scene_of files c.args.region.now.about.shape c.args.folds.now in
    let known = seen c.args.books.now (map (λ b. (goal.Fold-dyn g (b.fold.vtable, b.fold.value)).kind b.fold.value) c.args.bench.now.boxes.items) in
    let old = c.args.pass in
    let new = c.remove.result.0 in
    let reply = c.remove.result.1 in
    let place = c.in-Remove.place in
    subst (λ (k : Command). IfOk reply (λ text. DoesSome old new (λ calls. RunsCommand scene (command_tree k) known known calls text))) (sym c.in-Remove.is)
    (kept-run (λ (calls : List CallEnd) (text : List ℕ). OnObject (object_of known.names place.coll c.in-Remove.name) RemovesNamed calls text) known known old new reply refl c.remove.ensures.done)

pub returns-in-Delete-clause-done : goal.returns-in-Delete-clause-done
returns-in-Delete-clause-done g c files =
    let scene = scene_of files c.args.region.now.about.shape c.args.folds.now in
    let known = seen c.args.books.now (map (λ b. (goal.Fold-dyn g (b.fold.vtable, b.fold.value)).kind b.fold.value) c.args.bench.now.boxes.items) in
    let old = c.args.pass in
    let new = c.delete.result.0 in
    let reply = c.delete.result.1 in
    let place = c.in-Delete.place in
    subst (λ (k : Command). IfOk reply (λ text. DoesSome old new (λ calls. RunsCommand scene (command_tree k) known known calls text))) (sym c.in-Delete.is)
    (kept-run (λ (calls : List CallEnd) (text : List ℕ). DeletesWhere scene.shape (table_name place.table) place.coll (cond_tree c.in-Delete.filter) calls text) known known old new reply refl c.delete.ensures.done)

pub returns-in-Update-clause-done : goal.returns-in-Update-clause-done
returns-in-Update-clause-done g c files =
    let scene = scene_of files c.args.region.now.about.shape c.args.folds.now in
    let known = seen c.args.books.now (map (λ b. (goal.Fold-dyn g (b.fold.vtable, b.fold.value)).kind b.fold.value) c.args.bench.now.boxes.items) in
    let old = c.args.pass in
    let new = c.update.result.0 in
    let reply = c.update.result.1 in
    let place = c.in-Update.place in
    subst (λ (k : Command). IfOk reply (λ text. DoesSome old new (λ calls. RunsCommand scene (command_tree k) known known calls text))) (sym c.in-Update.is)
    (kept-run (λ (calls : List CallEnd) (text : List ℕ). UpdatesWhere scene.shape (table_name place.table) place.coll c.in-Update.column (expr_tree c.in-Update.value) (filter_tree c.in-Update.filter) calls text) known known old new reply refl (rw (c.as_ref.ensures.value) at c.update.ensures.done))

pub returns-in-Add-clause-done : goal.returns-in-Add-clause-done
returns-in-Add-clause-done g c files =
    let scene = scene_of files c.args.region.now.about.shape c.args.folds.now in
    let kinds = map (λ b. (goal.Fold-dyn g (b.fold.vtable, b.fold.value)).kind b.fold.value) c.args.bench.now.boxes.items in
    let known = seen c.args.books.now kinds in
    let now = seen c.add.new.books kinds in
    let old = c.args.pass in
    let new = c.add.result.0 in
    let reply = c.add.result.1 in
    subst (λ (k : Command). IfOk reply (λ text. DoesSome old new (λ calls. RunsCommand scene (command_tree k) known now calls text))) (sym c.in-Add.is) (c.add.ensures.done kinds)

pub returns-in-DropFold-clause-done : goal.returns-in-DropFold-clause-done
returns-in-DropFold-clause-done g c files =
    let scene = scene_of files c.args.region.now.about.shape c.args.folds.now in
    let kinds = map (λ b. (goal.Fold-dyn g (b.fold.vtable, b.fold.value)).kind b.fold.value) c.args.bench.now.boxes.items in
    let left = map (λ b. (goal.Fold-dyn g (b.fold.vtable, b.fold.value)).kind b.fold.value) c.drop_one.new.self.boxes.items in
    let known = seen c.args.books.now kinds in
    let now = seen c.args.books.now left in
    let pass = c.args.pass in
    let reply = c.dropped_line.result in
    subst (λ (k : Command). IfOk reply (λ text. DoesSome pass pass (λ calls. RunsCommand scene (command_tree k) known now calls text))) (sym c.in-DropFold.is)
    (drop-run c.in-DropFold.name c.args.books.now kinds left pass reply (rw c.as_str.ensures at c.drop_one.ensures.dropped) (rw c.as_str-in-DropFold.ensures at c.dropped_line.ensures))
