-- What a token makes of the plan of each part.
use Rattle.std.proofs.Common.{◌≡◌, ℕ, suc, zero, ◌+◌, ◌≤◌, true, if◌then◌else◌, List, [], ◌∷◌, ◌++◌, length, refl}
use Rattle.smc_tokens.specs.declared.token.Token.{Token}
use Rattle.smc_tokens.specs.declared.token.Token.TheVariants.{Name, Number, Sign}
use Rattle.smc_tokens.specs.declared.sign.Sign.TheVariants as signs
use Rattle.smc_tokens.specs.declared.token.Placed.{Placed}
use Rattle.smc_query.specs.Trees.{PathTree, ItemTree, KeyTree}
use Rattle.smc_query.specs.Machine.{Plan, may, whole, name, names, paths, path, item, items, key, keys, goes, stuck, step, ended, outcome, is_mark}
use Rattle.smc_parse.specs.declared.fault.Fault.TheVariants.{Wrong}
use Rattle.smc_parse.specs.Reading.{ahead, names_none, wholes_none, Stands, Leads, Stops, Misses, given}
use Rattle.smc_parse.proofs.LeadLaws.{Chooses, leads-step, at-token}

-- ---- names

name-step : (k : List ℕ → Plan) (n : List ℕ) → step (name k) (Name n) ≡ goes (k n)
unfolding step
name-step k n = refl

pub name-leads : (placed : List Placed) (at : ℕ) (n : List ℕ) → Stands placed at (Name n) → Leads name (given n) placed at (at + 1)
name-leads placed at n h = leads-step name (given n) placed at (Name n) h (λ k. name-step k n)

name-stuck : (k : List ℕ → Plan) (s : List Token) → names_none s ≡ true → outcome (name k) s ≡ stuck s
unfolding outcome step ended
name-stuck k [] e = refl
name-stuck k (Name n ∷ s) e = cc
name-stuck k (_ ∷ s) e = refl

pub name-stops : (placed : List Placed) (at : ℕ) → at ≤ length placed → names_none (ahead placed at) ≡ true → Stops name placed at (Wrong at)
name-stops placed at w e k = (w, name-stuck k (ahead placed at) e)

-- ---- chains

pub names-choose : (p : PathTree) → Chooses (names p) (Sign signs.Dot) (λ k. name (λ n. names (p ++ n ∷ []) k)) (given p)
unfolding step ended
names-choose p = record { steps = λ k t. refl; ends = λ k. refl }

pub paths-choose : (ps : List PathTree) → Chooses (paths ps) (Sign signs.Comma) (λ k. path (λ p. paths (ps ++ p ∷ []) k)) (given ps)
unfolding step ended
paths-choose ps = record { steps = λ k t. refl; ends = λ k. refl }

pub items-choose : (d : ℕ) (is : List ItemTree) → Chooses (items d is) (Sign signs.Comma) (λ k. item d (λ i. items d (is ++ i ∷ []) k)) (given is)
unfolding step ended
items-choose d is = record { steps = λ k t. refl; ends = λ k. refl }

pub keys-choose : (ks : List KeyTree) → Chooses (keys ks) (Sign signs.Comma) (λ k. key (λ i. keys (ks ++ i ∷ []) k)) (given ks)
unfolding step ended
keys-choose ks = record { steps = λ k t. refl; ends = λ k. refl }

-- ---- what may come

may-step : (m t : Token) (next other : Plan) → step (may m next other) t ≡ (if is_mark m t then goes next else step other t)
unfolding step
may-step m t next other = refl

may-ends : (m : Token) (next other : Plan) → ended (may m next other) ≡ ended other
unfolding ended
may-ends m next other = refl

-- a mark that may come
pub may-choose : {K : Type 0} (m : Token) (next other : K → Plan) → Chooses (λ k. may m (next k) (other k)) m next other
may-choose m next other = record { steps = λ k t. may-step m t (next k) (other k); ends = λ k. may-ends m (next k) (other k) }

whole-step : (k : ℕ → Plan) (n : ℕ) → step (whole k) (Number n 0) ≡ goes (k n)
unfolding step
whole-step k n = refl

pub whole-leads : (placed : List Placed) (at n : ℕ) → Stands placed at (Number n 0) → Leads whole (given n) placed at (at + 1)
whole-leads placed at n h = leads-step whole (given n) placed at (Number n 0) h (λ k. whole-step k n)

whole-stuck : (k : ℕ → Plan) (s : List Token) → wholes_none s ≡ true → outcome (whole k) s ≡ stuck s
unfolding outcome step ended
whole-stuck k [] e = refl
whole-stuck k (Number n zero ∷ s) e = cc
whole-stuck k (Number n (suc m) ∷ s) e = refl
whole-stuck k (_ ∷ s) e = refl

pub whole-stops : (placed : List Placed) (at : ℕ) → at ≤ length placed → wholes_none (ahead placed at) ≡ true → Misses whole placed at (Wrong at)
whole-stops placed at w e = at-token whole placed at at (λ k. (w, whole-stuck k (ahead placed at) e))
