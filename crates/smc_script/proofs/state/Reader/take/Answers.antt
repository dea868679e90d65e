use Rattle.std.proofs.Common.{◌≡◌}
use Rattle.smc_script.specs.Says.{add, drop_fold, end, set, worker}
use Rattle.smc_script.specs.States.{after, reading}
use Rattle.smc_script.proofs.StateLaws.{each-ok}
use Rattle.smc_script.proofs.state.Reader.take.Goals as goal

pub returns-in-Add : goal.returns-in-Add
returns-in-Add c =
    rw c.in-Add.is
    (each-ok c.take_add.result (λ catalog. reading c.take_add.new.self ≡ after catalog (reading c.args.self.now) c.args.line (add c.in-Add.table c.in-Add.name c.in-Add.row))
    c.args.catalog.now c.take_add.ensures)

pub returns-in-Set : goal.returns-in-Set
returns-in-Set c =
    rw c.in-Set.is
    (each-ok c.take_set.result (λ catalog. reading c.take_set.new.self ≡ after catalog (reading c.args.self.now) c.args.line (set c.in-Set.name c.in-Set.column c.in-Set.value))
    c.args.catalog.now c.take_set.ensures)

pub returns-in-DropFold : goal.returns-in-DropFold
returns-in-DropFold c =
    rw c.in-DropFold.is
    (each-ok c.take_drop.result (λ catalog. reading c.take_drop.new.self ≡ after catalog (reading c.args.self.now) c.args.line (drop_fold c.in-DropFold.name))
    c.args.catalog.now c.take_drop.ensures)

pub returns-in-Group : goal.returns-in-Group
returns-in-Group c = rw c.in-Group.is (c.take_group.ensures c.args.catalog.now)

pub returns-in-Worker : goal.returns-in-Worker
returns-in-Worker c =
    rw c.in-Worker.is
    (each-ok c.take_worker.result (λ catalog. reading c.take_worker.new.self ≡ after catalog (reading c.args.self.now) c.args.line worker) c.args.catalog.now c.take_worker.ensures)

pub returns-in-End : goal.returns-in-End
returns-in-End c =
    rw c.in-End.is
    (each-ok c.take_end.result (λ catalog. reading c.take_end.new.self ≡ after catalog (reading c.args.self.now) c.args.line end) c.args.catalog.now c.take_end.ensures)
