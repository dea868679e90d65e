-- What is read off from the front of a trace.
use Rattle.std.proofs.Common.{◌≡◌, ℕ, List, ◌++◌, Result, Ok, sym, ap, ◌∙◌}
use Rattle.std.proofs.lemmas.List.{append_cancel_right}
use Rattle.smc_plan.specs.declared.fault.PlanFault.{PlanFault}
use Rattle.smc_trace.specs.Trace.{CallEnd}
use Rattle.smc_replies.specs.Books.{Books, KnowsSame}
use Rattle.smc_replies.specs.Laws.{IsOnePart}

-- the same calls are left behind two commands, which reply the same
abbrev pub IsOneReply : List CallEnd → List CallEnd → List ℕ → List ℕ → Type 0
IsOneReply rest behind text said = (rest ≡ behind) × (text ≡ said)

-- so they have made the same calls
pub part-of : (new after : Books) (first other rest behind : List CallEnd) (text said : List ℕ) → first ++ rest ≡ other ++ behind → IsOneReply rest behind text said → KnowsSame new after
    → IsOnePart new after first other rest behind text said
part-of new after first other rest behind text said same one known = record {
  calls = append_cancel_right first other rest (same ∙ ap (λ (x : List CallEnd). other ++ x) (sym one.0));
  later = one.0;
  reply = one.1;
  known = known;
}

-- a text has one plan
pub one-plan : {A : Type 0} (by : Result A PlanFault) (one other : A) → by ≡ Ok one → by ≡ Ok other → one ≡ other
one-plan by one other is also = cc
