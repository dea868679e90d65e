-- What the place means where a plan is stuck, or where too much is open: the first token of which no text goes on.
use Rattle.std.proofs.Common.{◌≡◌, ℕ, zero, suc, ◌+◌, List, [], ◌∷◌, ◌++◌, append_assoc, Option, Some, None, refl, sym, ◌∙◌, ap, subst, arith, add_comm}
use Rattle.std.proofs.lemmas.List.{append-nil}
use Rattle.smc_query.specs.Faults.{Begins, IsWrongToken, IsWrongEnd, IsWrongBehind, IsTooDeep, IsTooDeepBehind}
use Rattle.smc_query.proofs.OutcomeLaws.{query-built, cond-built, edit-built}
use Rattle.smc_query.proofs.PlanTexts.{IsText, ends, passed, with_names, with_factors, with_terms, with_negs, with_conjs, with_paths, with_items, with_keys, FollowsStep, has-text, back, plan-spells}
use Rattle.smc_query.proofs.Deeper.{deeper, BecomesDeeper, ended-deeper, step-deeper}
use Rattle.smc_tokens.specs.declared.token.Token.{Token}
use Rattle.smc_query.specs.Trees.{CallTree, ItemTree, QueryTree, Answer, a_query as query_answer, a_cond as cond_answer, an_edit as edit_answer, Form, query_text, cond_text, edit_text}
use Rattle.smc_query.specs.Grammar.{Spells, ReadsCall, ReadsItem, unnamed, named, ReadsItems, one_item, more_items, ReadsQuery, a_query}
use Rattle.smc_query.specs.Machine.{Step, goes, wrong, deep, Outcome, built, stuck, too_deep, onward, at_end, Plan, done, may, names, factors, terms, negs, conjs, paths, items, keys, query, condition, edit, plan_of, step, ended, outcome}

-- ---- where more may be open

pub deeper-of : (form : Form) (d : ℕ) → deeper (plan_of form d) ≡ plan_of form (suc d)
unfolding deeper
deeper-of query_text d = refl
deeper-of cond_text d = refl
deeper-of edit_text d = refl

built-step : (plan : Plan) (t : Token) (s : List Token) (a : Answer) (here : Step) → BecomesDeeper here (step (deeper plan) t)
    → ((next : Plan) → outcome next s ≡ built a → outcome (deeper next) s ≡ built a)
    → onward here (λ q. outcome q s) (t ∷ s) ≡ built a → outcome (deeper plan) (t ∷ s) ≡ built a
unfolding outcome BecomesDeeper
built-step plan t s a (goes next) b ih e = rw b (ih next e)
built-step plan t s a wrong b ih e = cc
built-step plan t s a deep b ih e = cc

-- what is built is built where more may be open
pub built-deeper : (plan : Plan) (s : List Token) (a : Answer) → outcome plan s ≡ built a → outcome (deeper plan) s ≡ built a
unfolding outcome
built-deeper plan [] a e = rw (ended-deeper plan) e
built-deeper plan (t ∷ s) a e = built-step plan t s a (step plan t) (step-deeper plan t) (λ next. built-deeper next s a) e

stuck-step : (plan : Plan) (t : Token) (s r : List Token) (here : Step) → BecomesDeeper here (step (deeper plan) t)
    → ((next : Plan) → outcome next s ≡ stuck r → outcome (deeper next) s ≡ stuck r)
    → onward here (λ q. outcome q s) (t ∷ s) ≡ stuck r → outcome (deeper plan) (t ∷ s) ≡ stuck r
unfolding outcome BecomesDeeper
stuck-step plan t s r (goes next) b ih e = rw b (ih next e)
stuck-step plan t s r wrong b ih e = rw b e
stuck-step plan t s r deep b ih e = cc

-- what is stuck is stuck where more may be open
pub stuck-deeper : (plan : Plan) (s r : List Token) → outcome plan s ≡ stuck r → outcome (deeper plan) s ≡ stuck r
unfolding outcome
stuck-deeper plan [] r e = rw (ended-deeper plan) e
stuck-deeper plan (t ∷ s) r e = stuck-step plan t s r (step plan t) (step-deeper plan t) (λ next. stuck-deeper next s r) e

pub built-more : (form : Form) (n d : ℕ) (s : List Token) (a : Answer) → outcome (plan_of form d) s ≡ built a → outcome (plan_of form (n + d)) s ≡ built a
built-more form zero d s a e = let z : zero + d ≡ d = omega arith in rw z e
built-more form (suc n) d s a e =
    let z : suc n + d ≡ suc (n + d) = omega arith in
    rw (z, ← deeper-of form (n + d)) (built-deeper (plan_of form (n + d)) s a (built-more form n d s a e))

stuck-more : (form : Form) (n d : ℕ) (s r : List Token) → outcome (plan_of form d) s ≡ stuck r → outcome (plan_of form (n + d)) s ≡ stuck r
stuck-more form zero d s r e = let z : zero + d ≡ d = omega arith in rw z e
stuck-more form (suc n) d s r e =
    let z : suc n + d ≡ suc (n + d) = omega arith in
    rw (z, ← deeper-of form (n + d)) (stuck-deeper (plan_of form (n + d)) s r (stuck-more form n d s r e))

no-call : {s r : List Token} {c : CallTree} → ReadsCall zero s c r → ⊥
no-call h = elim h [ ]

no-item : {s r : List Token} {i : ItemTree} → ReadsItem zero s i r → ⊥
no-item (unnamed h) = no-call h
no-item (named h) = no-call h

no-items : {s r : List Token} {is : List ItemTree} → ReadsItems zero s is r → ⊥
no-items (one_item h) = no-item h
no-items (more_items h g) = no-item g

no-query : {s r : List Token} {q : QueryTree} → ReadsQuery zero s q r → ⊥
no-query (a_query hf hb hi hs hk) = no-items hi

query-at : (d : ℕ) {s : List Token} {q : QueryTree} → ReadsQuery d s q [] → outcome (query d) s ≡ built (query_answer q)
query-at zero h = absurd (no-query h)
query-at (suc d) {s} {q} h = rw (← deeper-of query_text d) (built-deeper (query d) s (query_answer q) (query-built h))

deeper-of-cond : (d : ℕ) → deeper (condition d) ≡ condition (suc d)
unfolding deeper
deeper-of-cond d = refl

deeper-of-edit : (d : ℕ) → deeper (edit d) ≡ edit (suc d)
unfolding deeper
deeper-of-edit d = refl

-- what spells a text is built as it
pub spelled-built : (form : Form) (d : ℕ) (s : List Token) (a : Answer) → Spells form d s a → outcome (plan_of form d) s ≡ built a
spelled-built query_text d s (query_answer q) h = query-at d h
spelled-built cond_text d s (cond_answer c) h = rw (← deeper-of-cond d) (built-deeper (condition d) s (cond_answer c) (cond-built h))
spelled-built edit_text d s (edit_answer x f) h = rw (← deeper-of-edit d) (built-deeper (edit d) s (edit_answer x f) (edit-built h))
spelled-built _ d s _ h = absurd h

-- what is stuck spells nothing, however deep
stuck-spells : (form : Form) (d e : ℕ) (s r : List Token) (a : Answer) → outcome (plan_of form d) s ≡ stuck r → Spells form e s a → ⊥
stuck-spells form d e s r a h g =
    let one : outcome (plan_of form (e + d)) s ≡ stuck r = stuck-more form e d s r h in
    let two : outcome (plan_of form (d + e)) s ≡ built a = built-more form d e s a (spelled-built form e s a g) in
    let same : d + e ≡ e + d = add_comm d e in
    let three : outcome (plan_of form (e + d)) s ≡ built a = rw same at two in
    cc

-- ---- the place

-- a list of tokens up to where a plan stops
pub record Stops (plan : Plan) (s r : List Token) (stops : List Token → Outcome) : Type 0 where
  pub front : List Token
  pub split : s ≡ front ++ r
  pub more : List Token
  pub answer : Answer
  pub is_text : IsText plan (front ++ more) answer
  pub ahead : (t : Token) (rest : List Token) → r ≡ t ∷ rest → (later : List Token) → outcome plan (front ++ t ∷ later) ≡ stops (t ∷ later)

same-rest : (s r : List Token) → stuck s ≡ stuck r → s ≡ r
same-rest s r e = cc

stop-here : (plan : Plan) (t : Token) (s r : List Token) (stops : List Token → Outcome) → t ∷ s ≡ r → ((later : List Token) → outcome plan (t ∷ later) ≡ stops (t ∷ later)) → Stops plan (t ∷ s) r stops
stop-here plan t s r stops e h =
    let (more, (answer, g)) = has-text plan in
    record {
      front = [];
      split = e;
      more = more;
      answer = answer;
      is_text = g;
      ahead = λ u rest is later. let same : t ≡ u = cc in let P : Token → Type 0 = λ v. outcome plan (v ∷ later) ≡ stops (v ∷ later) in subst P same (h later);
    }

stop-later : (plan next : Plan) (t : Token) (s r : List Token) (stops : List Token → Outcome) → step plan t ≡ goes next → Stops next s r stops → Stops plan (t ∷ s) r stops
unfolding outcome
stop-later plan next t s r stops e h = record {
  front = t ∷ h.front;
  split = ap (λ v. t ∷ v) h.split;
  more = h.more;
  answer = h.answer;
  is_text = back plan t (let P : Step → Type 0 = λ v. FollowsStep v (h.front ++ h.more) h.answer in subst P (sym e) h.is_text);
  ahead = λ u rest is later. rw e (h.ahead u rest is later);
}

stuck-at : (plan : Plan) (t : Token) (s r : List Token) (here : Step) → step plan t ≡ here
    → ((next : Plan) → outcome next s ≡ stuck r → Stops next s r stuck)
    → onward here (λ q. outcome q s) (t ∷ s) ≡ stuck r → Stops plan (t ∷ s) r stuck
unfolding outcome
stuck-at plan t s r (goes next) e ih h = stop-later plan next t s r stuck e (ih next h)
stuck-at plan t s r wrong e ih h = stop-here plan t s r stuck (same-rest (t ∷ s) r h) (λ later. rw e refl)
stuck-at plan t s r deep e ih h = cc

stuck-end : (plan : Plan) (r : List Token) (now : Option Answer) → at_end now ≡ stuck r → Stops plan [] r stuck
stuck-end plan r None h =
    let (more, (answer, g)) = has-text plan in
    let none : [] ≡ r = same-rest [] r h in
    record { front = []; split = none; more = more; answer = answer; is_text = g; ahead = λ t rest is later. cc }
stuck-end plan r (Some a) h = cc

-- where a plan is stuck
pub stuck-stops : (plan : Plan) (s r : List Token) → outcome plan s ≡ stuck r → Stops plan s r stuck
unfolding outcome
stuck-stops plan [] r h = stuck-end plan r (ended plan) h
stuck-stops plan (t ∷ s) r h = stuck-at plan t s r (step plan t) refl (λ next. stuck-stops next s r) h

-- a plan goes too deep behind a front: with the token behind it, a text goes on where more may be open
pub record Deepens (plan : Plan) (s r : List Token) : Type 0 where
  pub stops : Stops plan s r too_deep
  pub token : Token
  pub rest : List Token
  pub is : r ≡ token ∷ rest
  pub later : List Token
  pub result : Answer
  pub goes_on : IsText (deeper plan) (stops.front ++ token ∷ later) result

same-deep : (s r : List Token) → too_deep s ≡ too_deep r → s ≡ r
same-deep s r e = cc

deep-here : (plan : Plan) (t : Token) (s r : List Token) → step plan t ≡ deep → BecomesDeeper deep (step (deeper plan) t) → t ∷ s ≡ r → Deepens plan (t ∷ s) r
unfolding outcome BecomesDeeper
deep-here plan t s r e (next, b) same =
    let (later, (answer, g)) = has-text next in
    let (more, (a, f)) = has-text plan in
    record {
      stops = record {
        front = [];
        split = same;
        more = more;
        answer = a;
        is_text = f;
        ahead = λ u rest is w. let eq : t ≡ u = cc in let P : Token → Type 0 = λ v. outcome plan (v ∷ w) ≡ too_deep (v ∷ w) in subst P eq (rw e refl);
      };
      token = t;
      rest = s;
      is = sym same;
      later = later;
      result = answer;
      goes_on = back (deeper plan) t (let P : Step → Type 0 = λ v. FollowsStep v later answer in subst P (sym b) g);
    }

deep-later : (plan next : Plan) (t : Token) (s r : List Token) → step plan t ≡ goes next → BecomesDeeper (goes next) (step (deeper plan) t) → Deepens next s r → Deepens plan (t ∷ s) r
unfolding outcome BecomesDeeper stop-later
deep-later plan next t s r e b h = record {
  stops = stop-later plan next t s r too_deep e h.stops;
  token = h.token;
  rest = h.rest;
  is = h.is;
  later = h.later;
  result = h.result;
  goes_on = back (deeper plan) t (let P : Step → Type 0 = λ v. FollowsStep v (h.stops.front ++ h.token ∷ h.later) h.result in subst P (sym b) h.goes_on);
}

deep-at : (plan : Plan) (t : Token) (s r : List Token) (here : Step) → step plan t ≡ here → BecomesDeeper here (step (deeper plan) t)
    → ((next : Plan) → outcome next s ≡ too_deep r → Deepens next s r)
    → onward here (λ q. outcome q s) (t ∷ s) ≡ too_deep r → Deepens plan (t ∷ s) r
deep-at plan t s r (goes next) e b ih h = deep-later plan next t s r e b (ih next h)
deep-at plan t s r wrong e b ih h = cc
deep-at plan t s r deep e b ih h = deep-here plan t s r e b (same-deep (t ∷ s) r h)

deep-end : (plan : Plan) (r : List Token) (now : Option Answer) → at_end now ≡ too_deep r → Deepens plan [] r
deep-end plan r None h = cc
deep-end plan r (Some a) h = cc

-- where a plan goes too deep
pub deep-stops : (plan : Plan) (s r : List Token) → outcome plan s ≡ too_deep r → Deepens plan s r
unfolding outcome
deep-stops plan [] r h = deep-end plan r (ended plan) h
deep-stops plan (t ∷ s) r h = deep-at plan t s r (step plan t) refl (step-deeper plan t) (λ next. deep-stops next s r) h

-- ---- what is said of a text

begins-at : (form : Form) (d : ℕ) (s r : List Token) (stops : List Token → Outcome) (h : Stops (plan_of form d) s r stops) → Begins form (suc d) h.front
begins-at form d s r stops h = (h.more, (h.answer, plan-spells form d h.is_text))

wrong-token : (form : Form) (d : ℕ) (s : List Token) (t : Token) (rest : List Token) (h : Stops (plan_of form d) s (t ∷ rest) stuck) → IsWrongToken form (suc d) h.front t
wrong-token form d s t rest h = record {
  begins = begins-at form d s (t ∷ rest) stuck h;
  none = λ e (more, (a, g)).
      let P : List Token → Type 0 = λ v. Spells form e v a in
      stuck-spells form d e (h.front ++ t ∷ more) (t ∷ more) a (h.ahead t rest refl more) (subst P (append_assoc h.front (t ∷ []) more) g);
}

wrong-end : (form : Form) (d : ℕ) (s : List Token) (h : Stops (plan_of form d) s [] stuck) → outcome (plan_of form d) s ≡ stuck [] → IsWrongEnd form (suc d) h.front
wrong-end form d s h e =
    let same : s ≡ h.front = h.split ∙ append-nil h.front in
    let here : outcome (plan_of form d) h.front ≡ stuck [] = (let P : List Token → Type 0 = λ v. outcome (plan_of form d) v ≡ stuck [] in subst P same e) in
    record { begins = begins-at form d s [] stuck h; none = λ o a g. stuck-spells form d o h.front [] a here g }

-- where the plan of a text is stuck stands the first wrong token, or the end is wrong
pub stuck-is-wrong : (form : Form) (d : ℕ) (s r : List Token) → outcome (plan_of form d) s ≡ stuck r → (front : List Token) × ((s ≡ front ++ r) × IsWrongBehind form (suc d) front r)
stuck-is-wrong form d s [] e = let h : Stops (plan_of form d) s [] stuck = stuck-stops (plan_of form d) s [] e in (h.front, (h.split, wrong-end form d s h e))
stuck-is-wrong form d s (t ∷ rest) e =
    let h : Stops (plan_of form d) s (t ∷ rest) stuck = stuck-stops (plan_of form d) s (t ∷ rest) e in (h.front, (h.split, wrong-token form d s t rest h))

head-is : {t u : Token} {s r : List Token} → t ∷ s ≡ u ∷ r → u ≡ t
head-is e = cc

nothing-is : {t : Token} {s : List Token} → [] ≡ t ∷ s → ⊥
nothing-is e = cc

-- what spells a text within the depth is built by its plan
pub spelled-exactly : (form : Form) (d : ℕ) (s : List Token) (a : Answer) → Spells form (suc d) s a → outcome (plan_of form d) s ≡ built a
spelled-exactly query_text d s (query_answer q) h = query-built h
spelled-exactly cond_text d s (cond_answer c) h = cond-built h
spelled-exactly edit_text d s (edit_answer x f) h = edit-built h
spelled-exactly _ d s _ h = absurd h

too-deep-token : (form : Form) (d : ℕ) (s : List Token) (t : Token) (rest : List Token) (h : Deepens (plan_of form d) s (t ∷ rest)) → IsTooDeep form (suc d) h.stops.front t
too-deep-token form d s t rest h =
    let is : h.token ≡ t = head-is h.is in
    let go : IsText (plan_of form (suc d)) (h.stops.front ++ t ∷ h.later) h.result =
    (let P : Plan → Type 0 = λ q. IsText q (h.stops.front ++ t ∷ h.later) h.result in
    let Q : Token → Type 0 = λ v. IsText (deeper (plan_of form d)) (h.stops.front ++ v ∷ h.later) h.result in
    subst P (deeper-of form d) (subst Q is h.goes_on)) in
    record {
      begins = begins-at form d s (t ∷ rest) too_deep h.stops;
      goes_on = (
        suc (suc d),
        (
          h.later,
          (
            h.result,
            (let P : List Token → Type 0 = λ v. Spells form (suc (suc d)) v h.result in
                subst P (sym (append_assoc h.stops.front (t ∷ []) h.later)) (plan-spells form (suc d) go)),
          ),
        ),
      );
      none = λ (more, (a, g)).
          let P : List Token → Type 0 = λ v. Spells form (suc d) v a in
          let spelled : Spells form (suc d) (h.stops.front ++ t ∷ more) a = subst P (append_assoc h.stops.front (t ∷ []) more) g in
          let one : outcome (plan_of form d) (h.stops.front ++ t ∷ more) ≡ too_deep (t ∷ more) = h.stops.ahead t rest refl more in
          let two : outcome (plan_of form d) (h.stops.front ++ t ∷ more) ≡ built a = spelled-exactly form d (h.stops.front ++ t ∷ more) a spelled in
          cc;
    }

-- where the plan of a text goes too deep stands the first token that opens too much
pub deep-is-too-deep : (form : Form) (d : ℕ) (s r : List Token) → outcome (plan_of form d) s ≡ too_deep r → (front : List Token) × ((s ≡ front ++ r) × IsTooDeepBehind form (suc d) front r)
deep-is-too-deep form d s [] e = let h : Deepens (plan_of form d) s [] = deep-stops (plan_of form d) s [] e in absurd (nothing-is h.is)
deep-is-too-deep form d s (t ∷ rest) e =
    let h : Deepens (plan_of form d) s (t ∷ rest) = deep-stops (plan_of form d) s (t ∷ rest) e in (h.stops.front, (h.stops.split, too-deep-token form d s t rest h))

-- the empty text, where a plan may end
end-text : (plan : Plan) (a : Answer) → ended plan ≡ Some a → IsText plan [] a
unfolding ended
end-text (done b) a e = let same : b ≡ a = cc in let P : Answer → Type 0 = λ v. IsText (done b) [] v in subst P same ends
end-text (may m next other) a e = passed (end-text other a e)
end-text (names p next) a e = with_names (λ s o. o) (end-text (next p) a e)
end-text (factors d x next) a e = with_factors (λ s o. o) (end-text (next x) a e)
end-text (terms d x next) a e = with_terms (λ s o. o) (end-text (next x) a e)
end-text (negs d c next) a e = with_negs (λ s o. o) (end-text (next c) a e)
end-text (conjs d c next) a e = with_conjs (λ s o. o) (end-text (next c) a e)
end-text (paths ps next) a e = with_paths (λ s o. o) (end-text (next ps) a e)
end-text (items d is next) a e = with_items (λ s o. o) (end-text (next is) a e)
end-text (keys ks next) a e = with_keys (λ s o. o) (end-text (next ks) a e)
end-text _ a e = cc

text-of-end : (plan : Plan) (now : Option Answer) → ended plan ≡ now → (a : Answer) → at_end now ≡ built a → IsText plan [] a
text-of-end plan None e a h = cc
text-of-end plan (Some b) e a h = let same : b ≡ a = cc in let P : Answer → Type 0 = λ v. IsText plan [] v in subst P same (end-text plan b e)

text-of-step : (plan : Plan) (t : Token) (s : List Token) (a : Answer) (here : Step) → step plan t ≡ here → ((next : Plan) → outcome next s ≡ built a → IsText next s a)
    → onward here (λ q. outcome q s) (t ∷ s) ≡ built a → IsText plan (t ∷ s) a
text-of-step plan t s a (goes next) e ih h = back plan t (let P : Step → Type 0 = λ v. FollowsStep v s a in subst P (sym e) (ih next h))
text-of-step plan t s a wrong e ih h = cc
text-of-step plan t s a deep e ih h = cc

text-of-built : (plan : Plan) (s : List Token) (a : Answer) → outcome plan s ≡ built a → IsText plan s a
unfolding outcome
text-of-built plan [] a h = text-of-end plan (ended plan) refl a h
text-of-built plan (t ∷ s) a h = text-of-step plan t s a (step plan t) refl (λ next. text-of-built next s a) h

-- what the plan of a text builds, the text spells
pub built-spells : (form : Form) (d : ℕ) (s : List Token) (a : Answer) → outcome (plan_of form d) s ≡ built a → Spells form (suc d) s a
built-spells form d s a h = plan-spells form d (text-of-built (plan_of form d) s a h)
