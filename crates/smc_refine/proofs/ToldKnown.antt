-- What was told of a log is known of it: a told length is one that the log has come to.
use Rattle.std.proofs.Common.{◌≡◌, ℕ, zero, suc, ◌+◌, ◌≤◌, Option, List, [], ◌∷◌, ◌++◌, length, append-nil, append_assoc, sym, ap, ◌∙◌, subst, arith}
use Rattle.std.specs.Prelude.{Contains, slice_set}
use Rattle.std.proofs.lemmas.List.{length-append}
use Rattle.smc_shape.specs.Layout.{Layout}
use Rattle.smc_model.specs.declared.event.Event.{Event}
use Rattle.smc_model.specs.declared.event.Event.TheVariants.{Told}
use Rattle.smc_model.specs.Order.{OneOrder, IsTold, events_by, log_of}
use Rattle.smc_model.specs.Scans.{EachAfter}
use Rattle.smc_model.proofs.OrderLaws.{events_by-append, events_by-own, events_by-other, different}
use Rattle.smc_core.specs.declared.call.Choice.{Choice}
use Rattle.smc_core.specs.declared.local.Local.{Local}
use Rattle.smc_core.specs.Change.{change}
use Rattle.smc_core.specs.Local.{after}
use Rattle.smc_core.specs.Machine.{Machine, Leads}
use Rattle.smc_core.specs.Row.{row_shows}
use Rattle.smc_rules.proofs.CarryLaws.{by_pass, get-set_same}
use Rattle.smc_refine.specs.Orders.{logs_of}
use Rattle.smc_refine.proofs.OrderSteps.{told_of, logged-told, log-there, log-other}

-- in an order each told length is one that the events by then have come to
told-order : (of by count : ℕ) (before order : List (ℕ × Event)) → EachAfter (λ (past : List (ℕ × Event)) (done : ℕ × Event). IsTold past done.1) before order
    → Contains (events_by by order) (Told of count) → count ≤ length (events_by of (before ++ order))
told-order of by count before [] each has = absurd (omega (arith, has.1))
told-order of by count before ((who, event) ∷ order) each has =
    let later : Contains (events_by by order) (Told of count) → count ≤ length (events_by of (before ++ (who, event) ∷ order)) =
    λ more. subst (λ (es : List (ℕ × Event)). count ≤ length (events_by of es)) (append_assoc before ((who, event) ∷ []) order) (told-order of by count (before ++ (who, event) ∷ []) order each.1 more) in
    by_pass who by
    (λ same. first later (subst (λ (es : List Event). Contains es (Told of count)) (subst (λ (k : ℕ). events_by k ((who, event) ∷ order) ≡ event ∷ events_by k order) same (events_by-own who event order)) has))
    (λ apart. later (subst (λ (es : List Event). Contains es (Told of count)) (events_by-other by who event order (different who by apart)) has))
  where
    first : (Contains (events_by by order) (Told of count) → count ≤ length (events_by of (before ++ (who, event) ∷ order)))
        → Contains (event ∷ events_by by order) (Told of count) → count ≤ length (events_by of (before ++ (who, event) ∷ order))
    first later (zero, lt, is) =
        let known : count ≤ length (events_by of before) = subst (IsTold before) is each.0 in
        let long : length (events_by of (before ++ (who, event) ∷ order)) ≡ length (events_by of before) + length (events_by of ((who, event) ∷ order)) =
        ap length (events_by-append of before ((who, event) ∷ order)) ∙ length-append (events_by of before) (events_by of ((who, event) ∷ order)) in
        omega (arith, known, long)
    first later (suc k, lt, is) = later (k, omega (arith, lt), is)

-- so it is in logs that have one order
pub told-known : (logs : List (List Event)) (order : List (ℕ × Event)) (of by count : ℕ) → OneOrder logs order
    → Contains (log_of logs by) (Told of count) → count ≤ length (log_of logs of)
told-known logs order of by count one has =
    subst (λ (es : List Event). count ≤ length es) (one.each_log of)
    (told-order of by count [] order one.told (subst (λ (es : List Event). Contains es (Told of count)) (sym (one.each_log by)) has))

-- a log goes on: what it had stays its front
pub log-goes-on : (shape : Layout) (pass : ℕ) (m : Machine) (steps : List (ℕ × Choice)) (last : Machine) → Leads shape m steps last
    → (rest : List Event) × (log_of (logs_of last.locals) pass ≡ log_of (logs_of m.locals) pass ++ rest)
log-goes-on shape pass m [] last leads = ([], ap (λ (k : Machine). log_of (logs_of k.locals) pass) (sym leads) ∙ sym (append-nil (log_of (logs_of m.locals) pass)))
log-goes-on shape pass m (step ∷ later) last (next, taken, leads) =
    let (front, one) = once in
    let (rest, more) = log-goes-on shape pass next later last leads in
    (front ++ rest, more ∙ (ap (λ (es : List Event). es ++ rest) one ∙ append_assoc (log_of (logs_of m.locals) pass) front rest))
  where
    l' : Local
    l' = after shape step.0 taken.local step.1 taken.told (row_shows shape taken.offered.op m.row)

    e : Option Event
    e = (change shape step.0 taken.local.stand taken.local.stand.section taken.local.stand.phase step.1 taken.told (row_shows shape taken.offered.op m.row)).event

    at_next : log_of (logs_of next.locals) pass ≡ log_of (logs_of (slice_set m.locals step.0 l')) pass
    at_next = ap (λ (k : Machine). log_of (logs_of k.locals) pass) taken.leads

    once : (front : List Event) × (log_of (logs_of next.locals) pass ≡ log_of (logs_of m.locals) pass ++ front)
    once = by_pass pass step.0
        (λ same. (
          told_of e,
          at_next ∙ subst (λ (k : ℕ). log_of (logs_of (slice_set m.locals step.0 l')) k ≡ log_of (logs_of m.locals) k ++ told_of e) (sym same)
              (log-there (slice_set m.locals step.0 l') step.0 l' (get-set_same m.locals step.0 taken.local l' taken.here)
              ∙ (logged-told taken.local.log e ∙ ap (λ (es : List Event). es ++ told_of e) (sym (log-there m.locals step.0 taken.local taken.here)))),
        ))
        (λ apart. ([], at_next ∙ (log-other m.locals step.0 pass l' apart ∙ sym (append-nil (log_of (logs_of m.locals) pass)))))
