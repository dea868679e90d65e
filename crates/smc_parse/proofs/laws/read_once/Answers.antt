use Rattle.std.proofs.Common.{◌≡◌, ℕ, [], ◌∷◌, List, Option, None, ap}
use Rattle.smc_query.specs.Trees.{Answer, a_query, a_cond, QueryTree, an_edit, ExprTree, number, field, comparison, CallTree, count, ItemTree, KeyTree, PathTree}
use Rattle.smc_query.specs.declared.cond.Op.TheVariants.{Equal}
use Rattle.smc_parse.proofs.OnceLaws.{once, passed-once}
use Rattle.smc_parse.proofs.laws.read_once.Goals as goal

abbrev zero_is : ExprTree
zero_is = number 0 0

abbrev of_items : List ItemTree → Answer
of_items is = a_query (record { table = []; filter = None; by = []; items = is; sort = []; first = None })

abbrev of_by : List PathTree → Answer
of_by ps = a_query (record { table = []; filter = None; by = ps; items = []; sort = []; first = None })

abbrev of_sort : List KeyTree → Answer
of_sort ks = a_query (record { table = []; filter = None; by = []; items = []; sort = ks; first = None })

abbrev of_first : Option ℕ → Answer
of_first n = a_query (record { table = []; filter = None; by = []; items = []; sort = []; first = n })

abbrev of_item : ItemTree → Answer
of_item i = of_items (i ∷ [])

abbrev of_call : CallTree → Answer
of_call c = of_item (record { call = c; label = None })

abbrev of_label : Option (List ℕ) → Answer
of_label l = of_item (record { call = count; label = l })

query_of : Answer → QueryTree → QueryTree
query_of (a_query q) other = q
query_of _ other = other

abbrev none : QueryTree
none = record { table = []; filter = None; by = []; items = []; sort = []; first = None }

abbrev first_item : List ItemTree → ItemTree
first_item (i ∷ is) = i
first_item [] = record { call = count; label = None }

items-same : (v w : List ItemTree) → of_items v ≡ of_items w → v ≡ w
unfolding query_of
items-same v w e = ap (λ a. (query_of a none).items) e

item-same : (v w : ItemTree) → of_item v ≡ of_item w → v ≡ w
item-same v w e = ap first_item (items-same (v ∷ []) (w ∷ []) e)

call-same : (v w : CallTree) → of_call v ≡ of_call w → v ≡ w
call-same v w e = ap (λ i. i.call) (item-same _ _ e)

label-same : (v w : Option (List ℕ)) → of_label v ≡ of_label w → v ≡ w
label-same v w e = ap (λ i. i.label) (item-same _ _ e)

by-same : (v w : List PathTree) → of_by v ≡ of_by w → v ≡ w
unfolding query_of
by-same v w e = ap (λ a. (query_of a none).by) e

sort-same : (v w : List KeyTree) → of_sort v ≡ of_sort w → v ≡ w
unfolding query_of
sort-same v w e = ap (λ a. (query_of a none).sort) e

first-same : (v w : Option ℕ) → of_first v ≡ of_first w → v ≡ w
unfolding query_of
first-same v w e = ap (λ a. (query_of a none).first) e

pub returns : goal.returns
returns c = record {
  expr = once (λ t. an_edit t None) zero_is (λ v w e. let h = e in cc);
  cond = once a_cond (comparison Equal zero_is zero_is) (λ v w e. let h = e in cc);
  call = once of_call count call-same;
  item = once of_item (record { call = count; label = None }) item-same;
  items = once of_items [] items-same;
  label = once of_label None label-same;
  filter = once (λ f. an_edit zero_is f) None (λ v w e. let h = e in cc);
  by = once of_by [] by-same;
  sort = once of_sort [] sort-same;
  first = once of_first None first-same;
  name = once (λ n. an_edit (field (n ∷ [])) None) [] (λ v w e. let h = e in cc);
  whole = once (λ n. an_edit (number n 0) None) 0 (λ v w e. let h = e in cc);
  mark = passed-once (an_edit zero_is None);
}
