-- What is read of the tokens is one thing only.
use Rattle.std.proofs.Common.{◌≡◌, ◌⊎◌, inl, inr, ℕ, ◌-◌, ◌≤◌, eqb, true, List, [], ◌∷◌, length, refl, sym, ap, subst, ◌∙◌, arith}
use Rattle.std.proofs.lemmas.Bool.Decides.{eqb_tells}
use Rattle.std.proofs.lemmas.List.{length-drop, length-map}
use Rattle.smc_tokens.specs.Marks.{word_code, sign_code}
use Rattle.smc_tokens.specs.declared.token.Token.{Token}
use Rattle.smc_tokens.specs.declared.token.Token.TheVariants.{Name, Word, Date, Number, Text, Sign}
use Rattle.smc_tokens.specs.declared.token.Placed.{Placed}
use Rattle.smc_query.specs.Trees.{Answer}
use Rattle.smc_query.specs.Machine.{Plan, done, must, name, factor, Outcome, built, stuck, too_deep, step, ended, outcome}
use Rattle.smc_parse.specs.declared.fault.Fault.{Fault}
use Rattle.smc_parse.specs.declared.fault.Fault.TheVariants.{Wrong, TooDeep, NoMemory}
use Rattle.smc_parse.specs.Reading.{tokens_of, ahead, StopsBy, Leads, Stops, given}
use Rattle.smc_parse.specs.Once.{Once, PassedOnce}

same-number : (n : ℕ) → eqb n n ≡ true
same-number n = elim (eqb_tells n n) [ inl p ↦ p.0 | inr p ↦ absurd (p.1 refl) ]

-- a plan that takes these tokens
taken : List Token → Plan → Plan
taken [] p = p
taken (Name n ∷ s) p = name (λ _. taken s p)
taken (Word w ∷ s) p = must (Word w) (taken s p)
taken (Date y m d ∷ s) p = factor 0 (λ _. taken s p)
taken (Number u k ∷ s) p = factor 0 (λ _. taken s p)
taken (Text b ∷ s) p = factor 0 (λ _. taken s p)
taken (Sign g ∷ s) p = must (Sign g) (taken s p)

taken-outcome : (s : List Token) (p : Plan) → outcome (taken s p) s ≡ outcome p []
unfolding outcome step taken
taken-outcome [] p = refl
taken-outcome (Name n ∷ s) p = taken-outcome s p
taken-outcome (Word w ∷ s) p = rw (same-number (word_code w)) (taken-outcome s p)
taken-outcome (Date y m d ∷ s) p = taken-outcome s p
taken-outcome (Number u k ∷ s) p = taken-outcome s p
taken-outcome (Text b ∷ s) p = taken-outcome s p
taken-outcome (Sign g ∷ s) p = rw (same-number (sign_code g)) (taken-outcome s p)

done-built : (a : Answer) → outcome (done a) [] ≡ built a
unfolding outcome ended
done-built a = refl

done-same : (a : Answer) (s r : List Token) → outcome (done a) s ≡ outcome (done a) r → s ≡ r
unfolding outcome step ended
done-same a [] [] e = refl
done-same a [] (y ∷ r) e = let h = e in cc
done-same a (x ∷ s) [] e = let h = e in cc
done-same a (x ∷ s) (y ∷ r) e = let h = e in cc

stuck-same : (s r : List Token) → stuck s ≡ stuck r → s ≡ r
stuck-same s r e = let h = e in cc

deep-same : (s r : List Token) → too_deep s ≡ too_deep r → s ≡ r
deep-same s r e = let h = e in cc

ahead-length : (placed : List Placed) (at : ℕ) → length (ahead placed at) ≡ length placed - at
unfolding ahead
ahead-length placed at = let n : length (tokens_of placed) ≡ length placed = length-map placed (λ p. p.token) in let d = length-drop at (tokens_of placed) in omega arith

one-place : (placed : List Placed) (at more : ℕ) → at ≤ length placed → more ≤ length placed → ahead placed at ≡ ahead placed more → at ≡ more
one-place placed at more h g e = let x = ahead-length placed at in let y = ahead-length placed more in let z : length (ahead placed at) ≡ length (ahead placed more) = ap length e in omega arith

-- ---- any part

-- two leads to plans without what comes behind
leads-one : {K : Type 0} (part : K → Plan) (a b : K → Plan) (next : K) (w : Answer) (placed : List Placed) (from to more : ℕ) → a next ≡ done w → b next ≡ done w
    → Leads part a placed from to → Leads part b placed from more → to ≡ more
leads-one part a b next w placed from to more x y h g =
    let e : outcome (a next) (ahead placed to) ≡ outcome (b next) (ahead placed more) = sym (h.goes next) ∙ g.goes next in
    let f : outcome (done w) (ahead placed to) ≡ outcome (done w) (ahead placed more) =
    ap (λ p. outcome p (ahead placed to)) (sym x) ∙ (e ∙ ap (λ p. outcome p (ahead placed more)) y) in
    one-place placed to more h.within g.within (done-same w (ahead placed to) (ahead placed more) f)

built-never : (placed : List Placed) (fault : Fault) (a : Answer) → StopsBy placed fault (built a) → fault ≡ NoMemory
built-never placed (Wrong i) a (w, e) = absurd (cc)
built-never placed (TooDeep i) a (w, e) = absurd (cc)
built-never placed NoMemory a s = refl

leads-never : {K : Type 0} (part a : K → Plan) (next : K) (w : Answer) (placed : List Placed) (from to : ℕ) (fault : Fault) → a next ≡ taken (ahead placed to) (done w)
    → Leads part a placed from to → Stops part placed from fault → fault ≡ NoMemory
leads-never part a next w placed from to fault x h g =
    let e : outcome (part next) (ahead placed from) ≡ built w =
    h.goes next ∙ (ap (λ p. outcome p (ahead placed to)) x ∙ (taken-outcome (ahead placed to) (done w) ∙ done-built w)) in
    let P : Outcome → Type 0 = λ now. StopsBy placed fault now in built-never placed fault w (subst P e (g next))

stops-one : (placed : List Placed) (now : Outcome) (one other : Fault) → StopsBy placed one now → StopsBy placed other now → (one ≡ other) ⊎ ((one ≡ NoMemory) ⊎ (other ≡ NoMemory))
stops-one placed now (Wrong i) (Wrong j) (w, e) (v, f) = inl (ap Wrong (one-place placed i j w v (stuck-same _ _ (sym e ∙ f))))
stops-one placed now (TooDeep i) (TooDeep j) (w, e) (v, f) = inl (ap TooDeep (one-place placed i j w v (deep-same _ _ (sym e ∙ f))))
stops-one placed now (Wrong i) (TooDeep j) (w, e) (v, f) = absurd (cc)
stops-one placed now (TooDeep i) (Wrong j) (w, e) (v, f) = absurd (cc)
stops-one placed now NoMemory other s r = inr (inl refl)
stops-one placed now (Wrong i) NoMemory s r = inr (inr refl)
stops-one placed now (TooDeep i) NoMemory s r = inr (inr refl)

-- ---- a tree that an answer tells

tree-one : {T : Type 0} (answer_of : T → Answer) (placed : List Placed) (part : (T → Plan) → Plan) (from to more : ℕ) (t u : T) → ((v w : T) → answer_of v ≡ answer_of w → v ≡ w) → to ≡ more
    → Leads part (given t) placed from to → Leads part (given u) placed from more → t ≡ u
tree-one {T} answer_of placed part from to more t u tells e h g =
    let s : List Token = ahead placed to in
    let next : T → Plan = λ v. taken s (done (answer_of v)) in
    let y : outcome (next u) (ahead placed more) ≡ outcome (next u) s = ap (λ at. outcome (next u) (ahead placed at)) (sym e) in
    let z : outcome (next t) s ≡ outcome (next u) s = sym (h.goes next) ∙ (g.goes next ∙ y) in
    let b : built (answer_of t) ≡ built (answer_of u) = sym (done-built _) ∙ (sym (taken-outcome s (done (answer_of t))) ∙ (z ∙ (taken-outcome s (done (answer_of u)) ∙ done-built _))) in
    tells t u (let h2 = b in cc)

pub once : {T : Type 0} (answer_of : T → Answer) (some : T) → ((v w : T) → answer_of v ≡ answer_of w → v ≡ w) → Once T
once {T} answer_of some tells = record {
  tree = λ part placed from to more t u h g.
      let w : Answer = answer_of t in
      let e : to ≡ more = leads-one part (given t) (given u) (λ _. done w) w placed from to more refl refl h g in
      (tree-one answer_of placed part from to more t u tells e h g, e);
  both = λ part placed from to t fault h g. leads-never part (given t) (λ _. taken (ahead placed to) (done (answer_of t))) (answer_of t) placed from to fault refl h g;
  fault = λ part placed from one other h g. let next : T → Plan = λ _. done (answer_of some) in stops-one placed (outcome (part next) (ahead placed from)) one other (h next) (g next);
}

pub passed-once : (a : Answer) → PassedOnce
passed-once a = record {
  place = λ part placed from to more h g. leads-one part (λ k. k) (λ k. k) (done a) a placed from to more refl refl h g;
  both = λ part placed from to fault h g. leads-never part (λ k. k) (taken (ahead placed to) (done a)) a placed from to fault refl h g;
  fault = λ part placed from one other h g. stops-one placed (outcome (part (done a)) (ahead placed from)) one other (h (done a)) (g (done a));
}
