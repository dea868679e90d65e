-- The grammar of query text. Each rule says of a list of tokens what a front of it spells and which tokens are left.
-- The number is how many brackets, parentheses, `not` and unary minus may at most be open at one place.
use Rattle.std.specs.Prelude.{ℕ, suc, true, false, List, [], ◌∷◌, ◌++◌, Option, Some, None}
use Rattle.smc_tokens.specs.declared.token.Token.{Token}
use Rattle.smc_tokens.specs.declared.token.Token.TheVariants.{Name, Word, Date, Number, Text, Sign}
use Rattle.smc_tokens.specs.declared.reserved.Reserved.{Reserved}
use Rattle.smc_tokens.specs.declared.reserved.Reserved.TheVariants as words
use Rattle.smc_tokens.specs.declared.sign.Sign.{Sign as AnySign}
use Rattle.smc_tokens.specs.declared.sign.Sign.TheVariants as signs
use Rattle.smc_query.specs.declared.cond.Op.{Op}
use Rattle.smc_query.specs.declared.cond.Op.TheVariants as ops
use Rattle.smc_query.specs.Trees.{PathTree, ExprTree, number, date, text, field, sum, difference, product, minus, CondTree, either, both, negation, comparison, within, Aggregate, total, average, least, greatest, CallTree, count, aggregate, fold, ItemTree, KeyTree, QueryTree, Answer, a_query as query_answer, a_cond as cond_answer, an_edit as edit_answer, Form, query_text, cond_text, edit_text}

-- the sign of a comparison
abbrev pub op_sign : Op → AnySign
op_sign ops.Equal = signs.Equal
op_sign ops.Unequal = signs.Unequal
op_sign ops.Less = signs.Less
op_sign ops.LessEqual = signs.LessEqual
op_sign ops.Greater = signs.Greater
op_sign ops.GreaterEqual = signs.GreaterEqual

-- the word of a call
abbrev pub aggregate_word : Aggregate → Reserved
aggregate_word total = words.Sum
aggregate_word average = words.Avg
aggregate_word least = words.Min
aggregate_word greatest = words.Max

-- path = name {"." name}
pub data ReadsPath : List Token → PathTree → List Token → Type 0 where
  one_name : {n : List ℕ} {r : List Token} → ReadsPath (Name n ∷ r) (n ∷ []) r
  more_names : {s r : List Token} {p : PathTree} {n : List ℕ} → ReadsPath s p (Sign signs.Dot ∷ (Name n ∷ r)) → ReadsPath s (p ++ n ∷ []) r

mutual
  -- factor = number | date | text | path | "-" factor | "(" expr ")"
  pub data ReadsFactor : ℕ → List Token → ExprTree → List Token → Type 0 where
    a_number : {d u k : ℕ} {r : List Token} → ReadsFactor d (Number u k ∷ r) (number u k) r
    a_date : {d y m a : ℕ} {r : List Token} → ReadsFactor d (Date y m a ∷ r) (date y m a) r
    a_text : {d : ℕ} {b : List ℕ} {r : List Token} → ReadsFactor d (Text b ∷ r) (text b) r
    a_path : {d : ℕ} {s r : List Token} {p : PathTree} → ReadsPath s p r → ReadsFactor d s (field p) r
    a_minus : {d : ℕ} {t r : List Token} {a : ExprTree} → ReadsFactor d t a r → ReadsFactor (suc d) (Sign signs.Minus ∷ t) (minus a) r
    parentheses : {d : ℕ} {t r : List Token} {a : ExprTree} → ReadsExpr d t a (Sign signs.Close ∷ r) → ReadsFactor (suc d) (Sign signs.Open ∷ t) a r

  -- term = factor {"*" factor}
  pub data ReadsTerm : ℕ → List Token → ExprTree → List Token → Type 0 where
    one_factor : {d : ℕ} {s r : List Token} {a : ExprTree} → ReadsFactor d s a r → ReadsTerm d s a r
    a_product : {d : ℕ} {s t r : List Token} {a b : ExprTree} → ReadsTerm d s a (Sign signs.Star ∷ t) → ReadsFactor d t b r → ReadsTerm d s (product a b) r

  -- expr = term {("+"|"-") term}
  pub data ReadsExpr : ℕ → List Token → ExprTree → List Token → Type 0 where
    one_term : {d : ℕ} {s r : List Token} {a : ExprTree} → ReadsTerm d s a r → ReadsExpr d s a r
    a_sum : {d : ℕ} {s t r : List Token} {a b : ExprTree} → ReadsExpr d s a (Sign signs.Plus ∷ t) → ReadsTerm d t b r → ReadsExpr d s (sum a b) r
    a_difference : {d : ℕ} {s t r : List Token} {a b : ExprTree} → ReadsExpr d s a (Sign signs.Minus ∷ t) → ReadsTerm d t b r → ReadsExpr d s (difference a b) r

mutual
  -- neg = "not" neg | "[" cond "]" | cmp, where cmp = expr op expr | expr "between" expr "and" expr
  pub data ReadsNeg : ℕ → List Token → CondTree → List Token → Type 0 where
    a_negation : {d : ℕ} {t r : List Token} {c : CondTree} → ReadsNeg d t c r → ReadsNeg (suc d) (Word words.Not ∷ t) (negation c) r
    brackets : {d : ℕ} {t r : List Token} {c : CondTree} → ReadsCond d t c (Sign signs.CloseBracket ∷ r) → ReadsNeg (suc d) (Sign signs.OpenBracket ∷ t) c r
    a_comparison : {d : ℕ} {s t r : List Token} {op : Op} {a b : ExprTree} → ReadsExpr d s a (Sign (op_sign op) ∷ t) → ReadsExpr d t b r → ReadsNeg d s (comparison op a b) r
    a_range : {d : ℕ} {s t u r : List Token} {a b c : ExprTree} → ReadsExpr d s a (Word words.Between ∷ t) → ReadsExpr d t b (Word words.And ∷ u) → ReadsExpr d u c r → ReadsNeg d s (within a b c) r

  -- conj = neg {"and" neg}
  pub data ReadsConj : ℕ → List Token → CondTree → List Token → Type 0 where
    one_neg : {d : ℕ} {s r : List Token} {c : CondTree} → ReadsNeg d s c r → ReadsConj d s c r
    an_and : {d : ℕ} {s t r : List Token} {b c : CondTree} → ReadsConj d s b (Word words.And ∷ t) → ReadsNeg d t c r → ReadsConj d s (both b c) r

  -- cond = conj {"or" conj}
  pub data ReadsCond : ℕ → List Token → CondTree → List Token → Type 0 where
    one_conj : {d : ℕ} {s r : List Token} {c : CondTree} → ReadsConj d s c r → ReadsCond d s c r
    an_or : {d : ℕ} {s t r : List Token} {b c : CondTree} → ReadsCond d s b (Word words.Or ∷ t) → ReadsConj d t c r → ReadsCond d s (either b c) r

-- call = "count" "(" ")" | ("sum"|"avg"|"min"|"max") "(" expr ")" | "fold" name "(" expr ")"
pub data ReadsCall : ℕ → List Token → CallTree → List Token → Type 0 where
  a_count : {d : ℕ} {r : List Token} → ReadsCall (suc d) (Word words.Count ∷ (Sign signs.Open ∷ (Sign signs.Close ∷ r))) count r
  an_aggregate : {d : ℕ} {t r : List Token} {g : Aggregate} {a : ExprTree} → ReadsExpr d t a (Sign signs.Close ∷ r) → ReadsCall (suc d) (Word (aggregate_word g) ∷ (Sign signs.Open ∷ t)) (aggregate g a) r
  a_fold : {d : ℕ} {n : List ℕ} {t r : List Token} {a : ExprTree} → ReadsExpr d t a (Sign signs.Close ∷ r) → ReadsCall (suc d) (Word words.Fold ∷ (Name n ∷ (Sign signs.Open ∷ t))) (fold n a) r

-- item = call ["as" name]
pub data ReadsItem : ℕ → List Token → ItemTree → List Token → Type 0 where
  unnamed : {d : ℕ} {s r : List Token} {c : CallTree} → ReadsCall d s c r → ReadsItem d s (record { call = c; label = None }) r
  named : {d : ℕ} {s r : List Token} {c : CallTree} {n : List ℕ} → ReadsCall d s c (Word words.As ∷ (Name n ∷ r)) → ReadsItem d s (record { call = c; label = Some n }) r

-- item {"," item}
pub data ReadsItems : ℕ → List Token → List ItemTree → List Token → Type 0 where
  one_item : {d : ℕ} {s r : List Token} {i : ItemTree} → ReadsItem d s i r → ReadsItems d s (i ∷ []) r
  more_items : {d : ℕ} {s t r : List Token} {is : List ItemTree} {i : ItemTree} → ReadsItems d s is (Sign signs.Comma ∷ t) → ReadsItem d t i r → ReadsItems d s (is ++ i ∷ []) r

-- path {"," path}
pub data ReadsPaths : List Token → List PathTree → List Token → Type 0 where
  one_path : {s r : List Token} {p : PathTree} → ReadsPath s p r → ReadsPaths s (p ∷ []) r
  more_paths : {s t r : List Token} {ps : List PathTree} {p : PathTree} → ReadsPaths s ps (Sign signs.Comma ∷ t) → ReadsPath t p r → ReadsPaths s (ps ++ p ∷ []) r

-- key = path ["desc"]
pub data ReadsKey : List Token → KeyTree → List Token → Type 0 where
  rising : {s r : List Token} {p : PathTree} → ReadsPath s p r → ReadsKey s (record { path = p; desc = false }) r
  falling : {s r : List Token} {p : PathTree} → ReadsPath s p (Word words.Desc ∷ r) → ReadsKey s (record { path = p; desc = true }) r

-- key {"," key}
pub data ReadsKeys : List Token → List KeyTree → List Token → Type 0 where
  one_key : {s r : List Token} {k : KeyTree} → ReadsKey s k r → ReadsKeys s (k ∷ []) r
  more_keys : {s t r : List Token} {ks : List KeyTree} {k : KeyTree} → ReadsKeys s ks (Sign signs.Comma ∷ t) → ReadsKey t k r → ReadsKeys s (ks ++ k ∷ []) r

-- ["where" cond]
pub data ReadsFilter : ℕ → List Token → Option CondTree → List Token → Type 0 where
  no_filter : {d : ℕ} {r : List Token} → ReadsFilter d r None r
  a_filter : {d : ℕ} {t r : List Token} {c : CondTree} → ReadsCond d t c r → ReadsFilter d (Word words.Where ∷ t) (Some c) r

-- ["by" path {"," path}]
pub data ReadsBy : List Token → List PathTree → List Token → Type 0 where
  no_by : {r : List Token} → ReadsBy r [] r
  a_by : {t r : List Token} {ps : List PathTree} → ReadsPaths t ps r → ReadsBy (Word words.By ∷ t) ps r

-- ["sort" key {"," key}]
pub data ReadsSort : List Token → List KeyTree → List Token → Type 0 where
  no_sort : {r : List Token} → ReadsSort r [] r
  a_sort : {t r : List Token} {ks : List KeyTree} → ReadsKeys t ks r → ReadsSort (Word words.Sort ∷ t) ks r

-- ["first" number], where the number has no decimals
pub data ReadsFirst : List Token → Option ℕ → List Token → Type 0 where
  no_first : {r : List Token} → ReadsFirst r None r
  a_first : {n : ℕ} {r : List Token} → ReadsFirst (Word words.First ∷ (Number n 0 ∷ r)) (Some n) r

-- query = "from" name ["where" cond] ["by" path {"," path}] "show" item {"," item} ["sort" key {"," key}] ["first" number]
pub data ReadsQuery : ℕ → List Token → QueryTree → List Token → Type 0 where
  a_query : {d : ℕ} {n : List ℕ} {s t u v w r : List Token} {f : Option CondTree} {ps : List PathTree} {is : List ItemTree} {ks : List KeyTree} {k : Option ℕ}
      → ReadsFilter d s f t → ReadsBy t ps (Word words.Show ∷ u) → ReadsItems d u is v → ReadsSort v ks w → ReadsFirst w k r
      → ReadsQuery d (Word words.From ∷ (Name n ∷ s)) (record { table = n; filter = f; by = ps; items = is; sort = ks; first = k }) r

-- an edit: expr ["where" cond]
pub data ReadsEdit : ℕ → List Token → ExprTree → Option CondTree → List Token → Type 0 where
  an_edit : {d : ℕ} {s t r : List Token} {a : ExprTree} {f : Option CondTree} → ReadsExpr d s a t → ReadsFilter d t f r → ReadsEdit d s a f r

-- the tokens, all of them, spell this in a text of this form
abbrev pub Spells : Form → ℕ → List Token → Answer → Type 0
Spells query_text depth tokens (query_answer q) = ReadsQuery depth tokens q []
Spells cond_text depth tokens (cond_answer c) = ReadsCond depth tokens c []
Spells edit_text depth tokens (edit_answer a f) = ReadsEdit depth tokens a f []
Spells form depth tokens answer = ⊥
