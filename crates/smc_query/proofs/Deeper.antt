-- With one more open at a time, a plan goes on wherever it did, is stuck where it was, and goes on where too much was open.
use Rattle.std.proofs.Common.{◌≡◌, ℕ, zero, suc, Bool, true, false, if◌then◌else◌, List, [], ◌∷◌, ◌++◌, refl, ap}
use Rattle.smc_tokens.specs.declared.token.Token.{Token}
use Rattle.smc_tokens.specs.declared.token.Token.TheVariants.{Name, Word, Date, Number, Text, Sign}
use Rattle.smc_tokens.specs.declared.reserved.Reserved.TheVariants as words
use Rattle.smc_tokens.specs.declared.sign.Sign.TheVariants as signs
use Rattle.smc_query.specs.Trees.{ExprTree, sum, difference, product, minus, CondTree, either, both, negation, CallTree}
use Rattle.smc_query.specs.Machine.{Step, goes, wrong, deep, Plan, done, must, may, name, whole, names, factor, factors, terms, neg, compared, negs, conjs, paths, call, items, keys, is_mark, path, term, expr, conj, cond, item, key, opened, factor_step, neg_step, compared_step, call_step, name_step, whole_step, step, ended}

-- the plan in which one more may be open
unfoldable pub deeper : Plan → Plan
deeper (done a) = done a
deeper (must m next) = must m (deeper next)
deeper (may m next other) = may m (deeper next) (deeper other)
deeper (name next) = name (λ n. deeper (next n))
deeper (whole next) = whole (λ n. deeper (next n))
deeper (names p next) = names p (λ q. deeper (next q))
deeper (factor d next) = factor (suc d) (λ x. deeper (next x))
deeper (factors d x next) = factors (suc d) x (λ y. deeper (next y))
deeper (terms d x next) = terms (suc d) x (λ y. deeper (next y))
deeper (neg d next) = neg (suc d) (λ c. deeper (next c))
deeper (compared d x next) = compared (suc d) x (λ c. deeper (next c))
deeper (negs d b next) = negs (suc d) b (λ c. deeper (next c))
deeper (conjs d b next) = conjs (suc d) b (λ c. deeper (next c))
deeper (paths ps next) = paths ps (λ qs. deeper (next qs))
deeper (call d next) = call (suc d) (λ c. deeper (next c))
deeper (items d is next) = items (suc d) is (λ js. deeper (next js))
deeper (keys ks next) = keys ks (λ ls. deeper (next ls))

-- what a step becomes where one more may be open
unfoldable pub BecomesDeeper : Step → Step → Type 0
BecomesDeeper (goes next) now = now ≡ goes (deeper next)
BecomesDeeper wrong now = now ≡ wrong
BecomesDeeper deep now = (next : Plan) × (now ≡ goes next)

pub ended-deeper : (plan : Plan) → ended (deeper plan) ≡ ended plan
unfolding ended deeper
ended-deeper (done a) = refl
ended-deeper (may m next other) = ended-deeper other
ended-deeper (names p next) = ended-deeper (next p)
ended-deeper (factors d x next) = ended-deeper (next x)
ended-deeper (terms d x next) = ended-deeper (next x)
ended-deeper (negs d c next) = ended-deeper (next c)
ended-deeper (conjs d c next) = ended-deeper (next c)
ended-deeper (paths ps next) = ended-deeper (next ps)
ended-deeper (items d is next) = ended-deeper (next is)
ended-deeper (keys ks next) = ended-deeper (next ks)
ended-deeper _ = refl

becomes-if : (b : Bool) (next later : Plan) (other now : Step) → later ≡ deeper next → BecomesDeeper other now → BecomesDeeper (if b then goes next else other) (if b then goes later else now)
unfolding BecomesDeeper
becomes-if true next later other now e h = ap goes e
becomes-if false next later other now e h = h

opened-deeper : (d : ℕ) (inner later : ℕ → Plan) → ((e : ℕ) → later (suc e) ≡ deeper (inner e)) → BecomesDeeper (opened d inner) (opened (suc d) later)
unfolding BecomesDeeper
opened-deeper zero inner later h = (later zero, refl)
opened-deeper (suc d) inner later h = ap goes (h d)

factor-deeper : (d : ℕ) (next : ExprTree → Plan) (t : Token) → BecomesDeeper (factor_step d next t) (factor_step (suc d) (λ x. deeper (next x)) t)
unfolding deeper BecomesDeeper
factor-deeper d next (Number u k) = refl
factor-deeper d next (Date y m a) = refl
factor-deeper d next (Text b) = refl
factor-deeper d next (Name n) = refl
factor-deeper d next (Sign signs.Minus) = opened-deeper d (λ e. factor e (λ a. next (minus a))) (λ e. factor e (λ a. deeper (next (minus a)))) (λ e. refl)
factor-deeper d next (Sign signs.Open) =
    opened-deeper d (λ e. expr e (λ a. must (Sign signs.Close) (next a))) (λ e. expr e (λ a. must (Sign signs.Close) (deeper (next a)))) (λ e. refl)
factor-deeper d next _ = refl

neg-deeper : (d : ℕ) (next : CondTree → Plan) (t : Token) → BecomesDeeper (neg_step d next t) (neg_step (suc d) (λ c. deeper (next c)) t)
unfolding deeper BecomesDeeper
neg-deeper d next (Word words.Not) = opened-deeper d (λ e. neg e (λ c. next (negation c))) (λ e. neg e (λ c. deeper (next (negation c)))) (λ e. refl)
neg-deeper d next (Sign signs.OpenBracket) =
    opened-deeper d (λ e. cond e (λ c. must (Sign signs.CloseBracket) (next c))) (λ e. cond e (λ c. must (Sign signs.CloseBracket) (deeper (next c)))) (λ e. refl)
neg-deeper d next (Sign signs.Minus) = factor-deeper d (λ a. factors d a (λ b. terms d b (λ c. compared d c next))) (Sign signs.Minus)
neg-deeper d next (Sign signs.Open) = factor-deeper d (λ a. factors d a (λ b. terms d b (λ c. compared d c next))) (Sign signs.Open)
neg-deeper d next _ = refl

compared-deeper : (d : ℕ) (x : ExprTree) (next : CondTree → Plan) (t : Token) → BecomesDeeper (compared_step d x next t) (compared_step (suc d) x (λ c. deeper (next c)) t)
unfolding deeper BecomesDeeper
compared-deeper d x next (Sign signs.Equal) = refl
compared-deeper d x next (Sign signs.Unequal) = refl
compared-deeper d x next (Sign signs.Less) = refl
compared-deeper d x next (Sign signs.LessEqual) = refl
compared-deeper d x next (Sign signs.Greater) = refl
compared-deeper d x next (Sign signs.GreaterEqual) = refl
compared-deeper d x next (Word words.Between) = refl
compared-deeper d x next _ = refl

call-deeper : (d : ℕ) (next : CallTree → Plan) (t : Token) → BecomesDeeper (call_step d next t) (call_step (suc d) (λ c. deeper (next c)) t)
unfolding deeper BecomesDeeper
call-deeper d next (Word words.Count) = refl
call-deeper d next (Word words.Sum) = refl
call-deeper d next (Word words.Avg) = refl
call-deeper d next (Word words.Min) = refl
call-deeper d next (Word words.Max) = refl
call-deeper d next (Word words.Fold) = refl
call-deeper d next _ = refl

name-deeper : (next : List ℕ → Plan) (t : Token) → BecomesDeeper (name_step next t) (name_step (λ n. deeper (next n)) t)
unfolding BecomesDeeper
name-deeper next (Name n) = refl
name-deeper next _ = refl

whole-deeper : (next : ℕ → Plan) (t : Token) → BecomesDeeper (whole_step next t) (whole_step (λ n. deeper (next n)) t)
unfolding BecomesDeeper
whole-deeper next (Number n zero) = refl
whole-deeper next (Number n (suc k)) = refl
whole-deeper next _ = refl

-- what a step of a plan becomes where one more may be open
pub step-deeper : (plan : Plan) (t : Token) → BecomesDeeper (step plan t) (step (deeper plan) t)
unfolding step deeper BecomesDeeper
step-deeper (done a) t = refl
step-deeper (must m next) t = becomes-if (is_mark m t) next (deeper next) wrong wrong refl refl
step-deeper (may m next other) t = becomes-if (is_mark m t) next (deeper next) (step other t) (step (deeper other) t) refl (step-deeper other t)
step-deeper (name next) t = name-deeper next t
step-deeper (whole next) t = whole-deeper next t
step-deeper (names p next) t = becomes-if (is_mark (Sign signs.Dot) t) (name (λ n. names (p ++ n ∷ []) next)) (name (λ n. names (p ++ n ∷ []) (λ q. deeper (next q)))) (step (next p) t) (step (deeper (next p)) t) refl (step-deeper (next p) t)
step-deeper (factor d next) t = factor-deeper d next t
step-deeper (factors d x next) t =
    becomes-if (is_mark (Sign signs.Star) t) (factor d (λ b. factors d (product x b) next)) (factor (suc d) (λ b. factors (suc d) (product x b) (λ y. deeper (next y)))) (step (next x) t) (step (deeper (next x)) t) refl (step-deeper (next x) t)
step-deeper (terms d x next) t =
    becomes-if (is_mark (Sign signs.Plus) t) (term d (λ b. terms d (sum x b) next)) (term (suc d) (λ b. terms (suc d) (sum x b) (λ y. deeper (next y))))
    (if is_mark (Sign signs.Minus) t then goes (term d (λ b. terms d (difference x b) next)) else step (next x) t)
    (if is_mark (Sign signs.Minus) t then goes (term (suc d) (λ b. terms (suc d) (difference x b) (λ y. deeper (next y)))) else step (deeper (next x)) t) refl
    (becomes-if (is_mark (Sign signs.Minus) t) (term d (λ b. terms d (difference x b) next)) (term (suc d) (λ b. terms (suc d) (difference x b) (λ y. deeper (next y)))) (step (next x) t) (step (deeper (next x)) t) refl (step-deeper (next x) t))
step-deeper (neg d next) t = neg-deeper d next t
step-deeper (compared d x next) t = compared-deeper d x next t
step-deeper (negs d b next) t =
    becomes-if (is_mark (Word words.And) t) (neg d (λ c. negs d (both b c) next)) (neg (suc d) (λ c. negs (suc d) (both b c) (λ e. deeper (next e)))) (step (next b) t) (step (deeper (next b)) t) refl (step-deeper (next b) t)
step-deeper (conjs d b next) t =
    becomes-if (is_mark (Word words.Or) t) (conj d (λ c. conjs d (either b c) next)) (conj (suc d) (λ c. conjs (suc d) (either b c) (λ e. deeper (next e)))) (step (next b) t) (step (deeper (next b)) t) refl (step-deeper (next b) t)
step-deeper (paths ps next) t =
    becomes-if (is_mark (Sign signs.Comma) t) (path (λ p. paths (ps ++ p ∷ []) next)) (path (λ p. paths (ps ++ p ∷ []) (λ qs. deeper (next qs)))) (step (next ps) t) (step (deeper (next ps)) t) refl (step-deeper (next ps) t)
step-deeper (call d next) t = call-deeper d next t
step-deeper (items d is next) t =
    becomes-if (is_mark (Sign signs.Comma) t) (item d (λ i. items d (is ++ i ∷ []) next)) (item (suc d) (λ i. items (suc d) (is ++ i ∷ []) (λ js. deeper (next js)))) (step (next is) t) (step (deeper (next is)) t) refl (step-deeper (next is) t)
step-deeper (keys ks next) t =
    becomes-if (is_mark (Sign signs.Comma) t) (key (λ k. keys (ks ++ k ∷ []) next)) (key (λ k. keys (ks ++ k ∷ []) (λ ls. deeper (next ls)))) (step (next ks) t) (step (deeper (next ks)) t) refl (step-deeper (next ks) t)
