-- The worked calls that are alone, computed.
use Rattle.std.proofs.Common.{◌≡◌, ◌≢◌, ℕ, zero, suc, ◌+◌, false, Option, Some, None, List, [], ◌∷◌, ◌++◌, length, map, inl, inr, refl, sym, ap, ◌∙◌, subst, arith}
use Rattle.std.specs.Prelude.{IfSome, IsSomeAnd, option_map, slice_get}
use Rattle.smc_shape.specs.Places.{at}
use Rattle.smc_model.specs.declared.event.Event.{Event}
use Rattle.smc_model.specs.Order.{log_of}
use Rattle.smc_core.specs.declared.local.Answer.{Answer}
use Rattle.smc_core.specs.declared.local.Local.{Local}
use Rattle.smc_core.specs.declared.local.Owned.{Owned}
use Rattle.smc_core.specs.declared.phase.Phase.{Phase}
use Rattle.smc_core.specs.declared.section.Section.{Section}
use Rattle.smc_core.specs.Machine.{Machine}
use Rattle.smc_core.specs.Played.{played}
use Rattle.smc_rules.proofs.CarryLaws.{some-same}
use Rattle.smc_aside.proofs.WholeCalls.{at_rest, each-place, place_of}
use Rattle.smc_refine.specs.Alone.{IsApart, TellsOf, answers_until, owns_after}
use Rattle.smc_refine.specs.Orders.{logs_of}
use Rattle.smc_model.specs.declared.event.Cause.TheVariants.{Slots}
use Rattle.smc_core.specs.declared.done.Done.TheVariants.{Advanced}
use Rattle.smc_trace.specs.Named.{leaves, refuses}
use Rattle.smc_trace.specs.Trace.{CallEnd, IsTrace, answers_in, events_in}
use Rattle.smc_alone.specs.AloneCalls.{IsHome}
use Rattle.smc_alone.specs.Drives.{Drove, Surveyed}
use Rattle.smc_alone.specs.Laws.{DidAlone}
use Rattle.smc_alone.specs.Ripening.{LetsRipen}
use Rattle.smc_alone.specs.Worked.{DidAloneAfter, added, drives_and_surveys, drove, filled, fills_and_tries, surveyed, tried}

-- what a pass keeps for others to read, and where it stands
abbrev kept_by : Local → List Event × List Answer
kept_by l = (l.log, l.answers)

abbrev seen_in : Option Machine → Option (List (List Event × List Answer) × List (Section × Phase × Option Owned))
seen_in m = option_map (λ (k : Machine). (map kept_by k.locals, map place_of k.locals)) m

-- a pass that has done nothing is apart
apart-none : (since until : ℕ) (log : List Event) (other : ℕ) (l : Local) → l.log ≡ [] → l.answers ≡ [] → IsApart 0 since until log other l
apart-none since until log other l log_is answers_are = record {
  count = 0;
  left = refl;
  no_round = ap (λ (these : List Answer). owns_after false (answers_until 0 these)) answers_are;
  told = inl refl;
  next = subst (λ (es : List Event). IfSome (slice_get es 0) (TellsOf 0 until)) (sym log_is) tt;
}

-- what is seen where the first of two passes has made these calls, and the other one nothing
abbrev OnlyFirst : List CallEnd → Option (List (List Event × List Answer) × List (Section × Phase × Option Owned))
OnlyFirst whole = Some ((events_in whole, answers_in 0 whole) ∷ ([], []) ∷ [], at_rest ∷ at_rest ∷ [])

module _ (before calls after : List CallEnd) where
  abbrev whole : List CallEnd
  whole = before ++ (calls ++ after)

  abbrev Kept : List Local → Type 0
  Kept locals = map kept_by locals ≡ (events_in whole, answers_in 0 whole) ∷ ([], []) ∷ []

  first-kept : (locals : List Local) → Kept locals → (a : Local) × (slice_get locals 0 ≡ Some a) × IsTrace a whole
  first-kept [] same = absurd (cc)
  first-kept (a ∷ more) same =
      let one : kept_by a ≡ (events_in whole, answers_in 0 whole) = cc in
      (a, refl, (ap (λ (z : List Event × List Answer). z.0) one, ap (λ (z : List Event × List Answer). z.1) one))

  others-none : (locals : List Local) → Kept locals → (other : ℕ) (l : Local) → other ≢ 0 → slice_get locals other ≡ Some l → (l.log ≡ []) × (l.answers ≡ [])
  others-none [] same other l ne here = absurd (cc)
  others-none (a ∷ []) same other l ne here = absurd (cc)
  others-none (a ∷ b ∷ c ∷ more) same other l ne here = absurd (cc)
  others-none (a ∷ b ∷ []) same zero l ne here = absurd (ne refl)
  others-none (a ∷ b ∷ []) same (suc zero) l ne here =
      let two : kept_by b ≡ ([], []) = cc in
      let is : b ≡ l = some-same b l here in
      (ap (λ (k : Local). k.log) (sym is) ∙ ap (λ (z : List Event × List Answer). z.0) two, ap (λ (k : Local). k.answers) (sym is) ∙ ap (λ (z : List Event × List Answer). z.1) two)
  others-none (a ∷ b ∷ []) same (suc (suc other)) l ne here = absurd (cc)

  -- then these calls were alone
  only-alone : (found : Option Machine) → seen_in found ≡ OnlyFirst whole → IsHome before → IsSomeAnd found (λ m. DidAlone m.locals 0 before calls)
  only-alone None sees home = absurd (cc)
  only-alone (Some m) sees home =
      let both : (map kept_by m.locals, map place_of m.locals) ≡ ((events_in whole, answers_in 0 whole) ∷ ([], []) ∷ [], at_rest ∷ at_rest ∷ []) = some-same _ _ sees in
      let kept : Kept m.locals = ap (λ (z : List (List Event × List Answer) × List (Section × Phase × Option Owned)). z.0) both in
      let rest : map place_of m.locals ≡ at_rest ∷ at_rest ∷ [] = ap (λ (z : List (List Event × List Answer) × List (Section × Phase × Option Owned)). z.1) both in
      let one : (a : Local) × (slice_get m.locals 0 ≡ Some a) × IsTrace a whole = first-kept m.locals kept in record {
        local = one.0;
        here = one.1;
        idle = λ pass l there. ap (λ (z : Section × Phase × Option Owned). z.1) (each-place at_rest 2 m.locals rest pass l there);
        after = after;
        trace = one.2;
        home = home;
        alone = λ other l ne there. let none : (l.log ≡ []) × (l.answers ≡ []) = others-none m.locals kept other l ne there in
            apart-none (length (events_in before)) (length (events_in (before ++ calls)) + 1) (log_of (logs_of m.locals) 0) other l none.0 none.1;
      }

drives-seen : seen_in (played drives_and_surveys) ≡ OnlyFirst (added ++ ((drove ++ surveyed) ++ leaves))
unfolding at played
drives-seen = refl

pub drives_and_surveys-alone : DidAloneAfter drives_and_surveys added (drove ++ surveyed)
drives_and_surveys-alone = only-alone added (drove ++ surveyed) leaves (played drives_and_surveys) drives-seen (record { left = refl; no_round = refl })

pub drives_and_surveys-are : Drove 0 drove × Surveyed 0 2 1 surveyed
drives_and_surveys-are = (
  inr (record {
    answers = Advanced 6 ∷ Advanced 7 ∷ Advanced 8 ∷ [];
    waited = record { are = (tt, (tt, (tt, tt))); first = 6; latest = 8; begins = refl; ends = refl; two_on = omega arith };
    epoch = 8;
    bound = 9;
    frozen = 1;
    later_answers = Advanced 9 ∷ Advanced 10 ∷ Advanced 11 ∷ [];
    are = (tt, (tt, (tt, tt)));
    later_epoch = 11;
    moved = 1;
    abandoned = 0;
    gone = 0;
    made = refl;
  }),
  record { epoch = 11; made = refl },
)

fills-seen : seen_in (played fills_and_tries) ≡ OnlyFirst (filled ++ ((tried ++ refuses 0 Slots) ++ leaves))
unfolding at played
fills-seen = refl

pub fills_and_tries-alone : DidAloneAfter fills_and_tries filled (tried ++ refuses 0 Slots)
fills_and_tries-alone = only-alone filled (tried ++ refuses 0 Slots) leaves (played fills_and_tries) fills-seen (record { left = refl; no_round = refl })

pub tried-ripens : LetsRipen tried
tried-ripens = record { tame = (tt, (tt, (tt, (tt, (tt, (tt, (tt, tt))))))); turns = omega arith }
