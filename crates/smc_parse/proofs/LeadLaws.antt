-- Plans along the tokens: one lead after another, and a mark that may come.
use Rattle.std.proofs.Common.{◌≡◌, ℕ, zero, suc, ◌+◌, ◌-◌, ◌<◌, ◌≤◌, Bool, true, false, if◌then◌else◌, List, [], ◌∷◌, length, None, Result, Ok, Err, refl, ap, arith, ◌∙◌, sym, subst}
use Rattle.smc_tokens.specs.declared.token.Token.{Token}
use Rattle.smc_tokens.specs.declared.token.Placed.{Placed}
use Rattle.smc_query.specs.Machine.{Plan, must, Step, goes, wrong, opened, Outcome, stuck, too_deep, step, ended, outcome, is_mark, sees}
use Rattle.smc_parse.specs.declared.fault.Fault.{Fault}
use Rattle.smc_parse.specs.declared.fault.Fault.TheVariants.{Wrong, TooDeep}
use Rattle.smc_parse.specs.Reading.{ahead, Stands, StopsBy, Leads, Stops, Misses, Reads, ReadsInPlace, given}
use Rattle.smc_parse.proofs.AheadLaws.{Marked, marked-at}

-- one lead after another
pub leads-on : {K : Type 0} (a b c : K → Plan) (placed : List Placed) (x y z : ℕ) → Leads a b placed x y → Leads b c placed y z → Leads a c placed x z
leads-on a b c placed x y z h g = record {
  later = omega (arith, h.later, g.later);
  within = g.within;
  goes = λ next. h.goes next ∙ g.goes next;
}

-- a lead with more behind both plans
pub leads-with : {K L : Type 0} (f : L → K) (a b : K → Plan) (placed : List Placed) (x y : ℕ) → Leads a b placed x y → Leads (λ n. a (f n)) (λ n. b (f n)) placed x y
leads-with f a b placed x y h = record { later = h.later; within = h.within; goes = λ next. h.goes (f next) }

-- a fault behind a lead is one before it
pub stops-on : {K : Type 0} (a b : K → Plan) (placed : List Placed) (x y : ℕ) (fault : Fault) → Leads a b placed x y → Stops b placed y fault → Stops a placed x fault
stops-on a b placed x y fault h g next = let P : Outcome → Type 0 = λ now. StopsBy placed fault now in subst P (sym (h.goes next)) (g next)

-- a plan that is another one along these tokens
pub record Same {K : Type 0} (a b : K → Plan) (s : List Token) : Type 0 where
  pub same : (next : K) → outcome (a next) s ≡ outcome (b next) s

-- a plan that a mark takes to another, and that is a third where there is no such mark
pub record Chooses {K : Type 0} (plan : K → Plan) (mark : Token) (next other : K → Plan) : Type 0 where
  pub steps : (k : K) (t : Token) → step (plan k) t ≡ (if is_mark mark t then goes (next k) else step (other k) t)
  pub ends : (k : K) → ended (plan k) ≡ ended (other k)

chosen : (plan next : Plan) (other : Step) (t : Token) (s : List Token) (mark : Token) → step plan t ≡ (if is_mark mark t then goes next else other) → is_mark mark t ≡ true → outcome plan (t ∷ s) ≡ outcome next s
unfolding outcome
chosen plan next other t s mark e h = rw (e, h) refl

-- where the mark is seen, it takes the plan on
pub leads-mark : {K : Type 0} {plan next other : K → Plan} {mark : Token} (placed : List Placed) (at : ℕ) → Chooses plan mark next other → sees mark (ahead placed at) ≡ true → Leads plan next placed at (at + 1)
leads-mark {K} {plan} {next} {other} {mark} placed at c e =
    let m : Marked placed at mark = marked-at placed at mark e in
    record {
      later = omega arith;
      within = let h : at < length placed = m.stands.within in omega arith;
      goes = λ k. ap (outcome (plan k)) m.stands.is ∙ chosen (plan k) (next k) (step (other k) m.token) m.token (ahead placed (at + 1)) mark (c.steps k m.token) m.marks;
    }

passed : (plan next other : Plan) (mark : Token) (s : List Token) → ((t : Token) → step plan t ≡ (if is_mark mark t then goes next else step other t)) → ended plan ≡ ended other → sees mark s ≡ false → outcome plan s ≡ outcome other s
unfolding outcome
passed plan next other mark [] e f h = rw f refl
passed plan next other mark (t ∷ s) e f h = rw (e t, h) refl

-- where the mark is not seen, the plan is the other one
pub leads-none : {K : Type 0} {plan next other : K → Plan} {mark : Token} (placed : List Placed) (at : ℕ) → at ≤ length placed → Chooses plan mark next other → sees mark (ahead placed at) ≡ false → Leads plan other placed at at
leads-none {K} {plan} {next} {other} {mark} placed at w c e = record {
  later = omega arith;
  within = w;
  goes = λ k. passed (plan k) (next k) (other k) mark (ahead placed at) (c.steps k) (c.ends k) e;
}

mark-or-stuck : (plan next : Plan) (mark : Token) (s : List Token) → ((t : Token) → step plan t ≡ (if is_mark mark t then goes next else wrong)) → ended plan ≡ None → sees mark s ≡ false → outcome plan s ≡ stuck s
unfolding outcome
mark-or-stuck plan next mark [] e f h = rw f refl
mark-or-stuck plan next mark (t ∷ s) e f h = rw (e t, h) refl

unfolding-must : (mark t : Token) (next : Plan) → step (must mark next) t ≡ (if is_mark mark t then goes next else wrong)
unfolding step
unfolding-must mark t next = refl

ended-must : (mark : Token) (next : Plan) → ended (must mark next) ≡ None
unfolding ended
ended-must mark next = refl

-- where a token is wrong no memory was wanted
pub at-token : {K : Type 0} (part : K → Plan) (placed : List Placed) (from index : ℕ) → Stops part placed from (Wrong index) → Misses part placed from (Wrong index)
at-token part placed from index h = record { stops = h; of_tokens = λ same. let e = same in cc }

-- a mark that must come is passed where it is seen
pub must-leads : (placed : List Placed) (at : ℕ) (mark : Token) → sees mark (ahead placed at) ≡ true → Leads (must mark) (λ next. next) placed at (at + 1)
must-leads placed at mark e =
    let m : Marked placed at mark = marked-at placed at mark e in
    record {
      later = omega arith;
      within = let h : at < length placed = m.stands.within in omega arith;
      goes = λ k. ap (outcome (must mark k)) m.stands.is ∙ chosen (must mark k) k wrong m.token (ahead placed (at + 1)) mark (unfolding-must mark m.token k) m.marks;
    }

-- and where it is not seen, its plan stops
pub must-stops : (placed : List Placed) (at : ℕ) (mark : Token) → at ≤ length placed → sees mark (ahead placed at) ≡ false → Misses (must mark) placed at (Wrong at)
must-stops placed at mark w e = at-token (must mark) placed at at (λ k. (w, mark-or-stuck (must mark k) k mark (ahead placed at) (λ t. unfolding-must mark t k) (ended-must mark k) e))

went : (plan next : Plan) (t : Token) (s : List Token) → step plan t ≡ goes next → outcome plan (t ∷ s) ≡ outcome next s
unfolding outcome
went plan next t s e = rw e refl

-- where the token of the place takes the plan on
pub leads-step : {K : Type 0} (plan next : K → Plan) (placed : List Placed) (at : ℕ) (t : Token) → Stands placed at t → ((k : K) → step (plan k) t ≡ goes (next k)) → Leads plan next placed at (at + 1)
leads-step plan next placed at t h e = record {
  later = omega arith;
  within = let w : at < length placed = h.within in omega arith;
  goes = λ k. ap (outcome (plan k)) h.is ∙ went (plan k) (next k) t (ahead placed (at + 1)) (e k);
}

-- a mark that is seen has a place
pub mark-within : (placed : List Placed) (at : ℕ) (mark : Token) → sees mark (ahead placed at) ≡ true → at < length placed
mark-within placed at mark e = (marked-at placed at mark e).stands.within

-- a part that was read, where a plan goes on with it
pub then-leads : {K L : Type 0} (f : K → L) (plan : K → Plan) (part after : L → Plan) (placed : List Placed) (x y z : ℕ) → Leads plan (λ k. part (f k)) placed x y → Leads part after placed y z → Leads plan (λ k. after (f k)) placed x z
then-leads f plan part after placed x y z h g = leads-on plan (λ k. part (f k)) (λ k. after (f k)) placed x y z h (leads-with f part after placed y z g)

-- a part whose plan stops, where a plan goes on with it
pub then-stops : {K L : Type 0} (f : K → L) (plan : K → Plan) (part : L → Plan) (placed : List Placed) (x y : ℕ) (fault : Fault) → Leads plan (λ k. part (f k)) placed x y → Stops part placed y fault → Stops plan placed x fault
then-stops f plan part placed x y fault h g = stops-on plan (λ k. part (f k)) placed x y fault h (λ k. g (f k))

-- the same where no memory was wanted
pub then-misses : {K L : Type 0} (f : K → L) (plan : K → Plan) (part : L → Plan) (placed : List Placed) (x y : ℕ) (fault : Fault) → Leads plan (λ k. part (f k)) placed x y → Misses part placed y fault → Misses plan placed x fault
then-misses f plan part placed x y fault h g = record { stops = then-stops f plan part placed x y fault h g.stops; of_tokens = g.of_tokens }

-- what is read without memory is read
pub in-place : {X T : Type 0} (part : (T → Plan) → Plan) (tree_of : X → T) (placed : List Placed) (from : ℕ) (result : Result (X × ℕ) Fault) → ReadsInPlace part tree_of placed from result → Reads part tree_of placed from result
in-place part tree_of placed from (Ok found) h = h
in-place part tree_of placed from (Err fault) h = h.stops

-- where a mark is seen, its token takes the plan on
pub leads-seen : {K : Type 0} (plan next : K → Plan) (placed : List Placed) (at : ℕ) (mark : Token) → sees mark (ahead placed at) ≡ true
    → ((k : K) (t : Token) (s : List Token) → ahead placed at ≡ t ∷ s → is_mark mark t ≡ true → step (plan k) t ≡ goes (next k)) → Leads plan next placed at (at + 1)
leads-seen plan next placed at mark e f =
    let m : Marked placed at mark = marked-at placed at mark e in
    leads-step plan next placed at m.token m.stands (λ k. f k m.token (ahead placed (at + 1)) m.stands.is m.marks)

-- a mark that opens one more
pub record Opens {K : Type 0} (plan : K → Plan) (mark : Token) (depth : ℕ) (inner : K → ℕ → Plan) : Type 0 where
  pub steps : (k : K) (t : Token) → is_mark mark t ≡ true → step (plan k) t ≡ opened depth (inner k)

opened-less : (depth : ℕ) (inner : ℕ → Plan) → 0 < depth → opened depth inner ≡ goes (inner (depth - 1))
opened-less zero inner h = absurd (omega arith)
opened-less (suc d) inner h = let e : suc d - 1 ≡ d = omega arith in rw e refl

-- where one more may be open
pub opens-leads : {K : Type 0} {plan : K → Plan} {mark : Token} {depth : ℕ} {inner : K → ℕ → Plan} (placed : List Placed) (at : ℕ) → Opens plan mark depth inner → 0 < depth
    → sees mark (ahead placed at) ≡ true → Leads plan (λ k. inner k (depth - 1)) placed at (at + 1)
opens-leads {K} {plan} {mark} {depth} {inner} placed at o h e = leads-seen plan (λ k. inner k (depth - 1)) placed at mark e (λ k t s is m. o.steps k t m ∙ opened-less depth (inner k) h)

too-deep : (plan : Plan) (t : Token) (s : List Token) (inner : ℕ → Plan) (depth : ℕ) → depth ≡ 0 → step plan t ≡ opened depth inner → outcome plan (t ∷ s) ≡ too_deep (t ∷ s)
unfolding outcome
too-deep plan t s inner depth z e = rw (e, z) refl

too-deep-at : (plan : Plan) (t : Token) (s later : List Token) → s ≡ t ∷ later → outcome plan (t ∷ later) ≡ too_deep (t ∷ later) → outcome plan s ≡ too_deep s
too-deep-at plan t s later e h = rw e h

-- where none may be open
pub opens-stops : {K : Type 0} {plan : K → Plan} {mark : Token} {depth : ℕ} {inner : K → ℕ → Plan} (placed : List Placed) (at : ℕ) → at ≤ length placed → Opens plan mark depth inner → depth ≡ 0
    → sees mark (ahead placed at) ≡ true → Stops plan placed at (TooDeep at)
opens-stops {K} {plan} {mark} {depth} {inner} placed at w o z e k =
    let m : Marked placed at mark = marked-at placed at mark e in
    (w, too-deep-at (plan k) m.token (ahead placed at) (ahead placed (at + 1)) m.stands.is (too-deep (plan k) m.token (ahead placed (at + 1)) (inner k) depth z (o.steps k m.token m.marks)))

-- a mark that is not the first token
pub first-is : (mark t : Token) (s later : List Token) (b : Bool) → s ≡ t ∷ later → sees mark s ≡ b → is_mark mark t ≡ b
first-is mark t s later b e h = sym (ap (sees mark) e) ∙ h

stuck-first : (plan : Plan) (t : Token) (s : List Token) → step plan t ≡ wrong → outcome plan (t ∷ s) ≡ stuck (t ∷ s)
unfolding outcome
stuck-first plan t s e = rw e refl

stuck-end : (plan : Plan) → ended plan ≡ None → outcome plan [] ≡ stuck []
unfolding outcome
stuck-end plan e = rw e refl

stuck-along : (plan : Plan) (s r : List Token) → s ≡ r → outcome plan r ≡ stuck r → outcome plan s ≡ stuck s
stuck-along plan s r e h = rw e h

-- the token of the place is wrong
pub stops-step : {K : Type 0} (plan : K → Plan) (placed : List Placed) (at : ℕ) (t : Token) → at ≤ length placed → Stands placed at t → ((k : K) → step (plan k) t ≡ wrong) → Stops plan placed at (Wrong at)
stops-step plan placed at t w h e k = (w, stuck-along (plan k) (ahead placed at) (t ∷ ahead placed (at + 1)) h.is (stuck-first (plan k) t (ahead placed (at + 1)) (e k)))

-- the end is wrong
pub stops-end : {K : Type 0} (plan : K → Plan) (placed : List Placed) (at : ℕ) → at ≤ length placed → ahead placed at ≡ [] → ((k : K) → ended (plan k) ≡ None) → Stops plan placed at (Wrong at)
stops-end plan placed at w h e k = (w, stuck-along (plan k) (ahead placed at) [] h (stuck-end (plan k) (e k)))

-- on past a mark, behind what was read so far
pub on-mark : {K : Type 0} {plan sofar next other : K → Plan} {mark : Token} (placed : List Placed) (from at : ℕ) → Leads plan sofar placed from at → Chooses sofar mark next other
    → sees mark (ahead placed at) ≡ true → Leads plan next placed from (at + 1)
on-mark {K} {plan} {sofar} {next} {other} {mark} placed from at h c e = leads-on plan sofar next placed from at (at + 1) h (leads-mark placed at c e)

-- on where there is no such mark, behind what was read so far
pub past-mark : {K : Type 0} {plan sofar next other : K → Plan} {mark : Token} (placed : List Placed) (from at : ℕ) → Leads plan sofar placed from at → Chooses sofar mark next other
    → sees mark (ahead placed at) ≡ false → Leads plan other placed from at
past-mark {K} {plan} {sofar} {next} {other} {mark} placed from at h c e = leads-on plan sofar other placed from at at h (leads-none placed at h.within c e)

-- what is read behind a lead is read before it
pub reads-on : {X T : Type 0} (plan part : (T → Plan) → Plan) (tree_of : X → T) (placed : List Placed) (x y : ℕ) (result : Result (X × ℕ) Fault) → Leads plan part placed x y
    → Reads part tree_of placed y result → Reads plan tree_of placed x result
reads-on plan part tree_of placed x y (Ok found) h g = leads-on plan part (given (tree_of found.0)) placed x y found.1 h g
reads-on plan part tree_of placed x y (Err fault) h g = stops-on plan part placed x y fault h g
