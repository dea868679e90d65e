-- What a group does: all its workers at the same time, each by its own pass.
use Rattle.std.specs.Prelude.{◌≡◌, ℕ, ◌+◌, List, [], ◌∷◌, ◌++◌, length, map, codes}
use Rattle.std.specs.Fmt.{decimal}
use Rattle.std.specs.List.{AllZip, flat_map}
use Rattle.smc_trace.specs.Named.{learns, notes}
use Rattle.smc_trace.specs.Trace.{CallEnd, events_in}
use Rattle.smc_script.specs.Trees.{NumberedTree}
use Rattle.smc_replies.specs.Books.{Books}
use Rattle.smc_replies.specs.Loads.{Scene}
use Rattle.smc_replies.specs.Workers.{KnowsAdded, Worked, WorksAs}

-- how far a script has come: what is known, what the main pass has done, and what the passes of workers have done, the first
-- worker's first
pub record Progress : Type 0 where
  pub books : Books
  pub main : List CallEnd
  pub workers : List (List CallEnd)

-- the reply of the worker with this number: a line that names it, and its replies
abbrev pub worker_text : ℕ → Worked → List ℕ
worker_text number worked = codes "worker " ++ decimal number ++ codes "\n" ++ flat_map (λ (reply : List ℕ). reply) worked.replies

-- the replies of the workers from this number on
abbrev pub group_text : ℕ → List Worked → List ℕ
group_text number [] = []
group_text number (worked ∷ later) = worker_text number worked ++ group_text (number + 1) later

-- what the pass of a worker has done at the end of the group
abbrev pub all_calls : Worked → List CallEnd
all_calls worked = worked.before ++ worked.calls

-- the main pass learns what the workers from this number on have done
abbrev pub learns_all : ℕ → List Worked → List CallEnd
learns_all number [] = []
learns_all number (worked ∷ later) = learns number (length (events_in (all_calls worked))) ++ learns_all (number + 1) later

-- the main pass makes a note for each worker, the workers do what they are to do, and the main pass learns a note of each; what they
-- added is known behind the group, in the order of the workers and of their commands, and so are their replies told
pub record RunsGroup (scene : Scene) (workers : List (List NumberedTree)) (old new : Progress) (text : List ℕ) : Type 0 where
  pub did : List Worked
  pub idle : List (List CallEnd)
  pub noted : List ℕ
  pub each : AllZip (WorksAs scene old.books (length (events_in old.main))) workers did
  pub one_each : length noted ≡ length workers
  pub began : old.workers ≡ map (λ (worked : Worked). worked.before) did ++ idle
  pub ended : new.workers ≡ map all_calls did ++ idle
  pub main : new.main ≡ old.main ++ (flat_map notes noted ++ learns_all 1 did)
  pub books : KnowsAdded (flat_map (λ (worked : Worked). worked.added) did) old.books new.books
  pub reply : text ≡ group_text 1 did
