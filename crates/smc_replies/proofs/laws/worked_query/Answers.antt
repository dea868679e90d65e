-- What it does, and that the text is what is printed.
use Rattle.std.proofs.Common.{◌≡◌, ℕ, Some, None, List, [], ◌∷◌, Ok, refl}
use Rattle.std.specs.Fmt.{digits}
use Rattle.smc_query.specs.Trees.{Word}
use Rattle.smc_types.specs.Tables.{the_tables}
use Rattle.smc_plan.specs.Outputs as outputs
use Rattle.smc_plan.specs.Planned.{Planned}
use Rattle.smc_visits.specs.Rows.{has_all}
use Rattle.smc_visits.specs.Visits.{Visited}
use Rattle.smc_replies.specs.Queries.{query_plan}
use Rattle.smc_replies.specs.Worked.{a_count, object_at}
use Rattle.smc_replies.proofs.laws.worked_query.Goals as goal

-- the plan of a count has no leaf
abbrev its-plan : Planned
its-plan = record { leaves = []; filter = None; by = []; items = outputs.count ∷ []; sort = []; first = None }

-- of an object nothing is read
abbrev came-to : ℕ → ℕ → Visited
came-to entry slot = record { held = object_at entry slot; row = Some []; calls = [] }

is-planned : (folds : List Word) → query_plan folds a_count ≡ Ok its-plan
unfolding the_tables
is-planned folds = refl

pub returns : goal.returns
unfolding digits
returns c scene kinds = (
  _,
  _,
  _,
  _,
  _,
  (
    refl,
    record {
      plan = its-plan;
      planned = is-planned scene.folds;
      answers = record {
        epoch = 2;
        inner = _;
        holds = record {
          rows = [] ∷ [] ∷ [];
          reads = record {
            visits = came-to 5 0 ∷ came-to 7 3 ∷ [];
            scans = record { scan = 0; each = (has_all, (has_all, tt)); made = refl };
            rows_are = refl;
          };
          text_is = refl;
        };
        made = refl;
      };
    },
  ),
  (refl, refl, refl),
  refl,
  refl,
)
