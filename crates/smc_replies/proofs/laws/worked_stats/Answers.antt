-- What each of the two does, and that the text is what is printed.
use Rattle.std.proofs.Common.{[], ◌∷◌, refl}
use Rattle.std.specs.Fmt.{digits}
use Rattle.smc_replies.specs.Worked.{object_at}
use Rattle.smc_replies.proofs.laws.worked_stats.Goals as goal

pub returns : goal.returns
unfolding digits
returns c scene kinds = (
  _,
  _,
  _,
  _,
  _,
  (
    refl,
    record {
      count = 2;
      counts = record { epoch = 2; inner = _; holds = record { scan = 0; visits = object_at 5 0 ∷ object_at 7 3 ∷ []; counted = refl; made = refl }; made = refl };
      reply = refl;
    },
  ),
  (
    _,
    _,
    _,
    _,
    _,
    (refl, record { count = 0; counts = record { epoch = 2; inner = _; holds = record { scan = 1; visits = []; counted = refl; made = refl }; made = refl }; reply = refl }),
    (refl, refl, refl),
    refl,
    refl,
  ),
  refl,
  refl,
)
