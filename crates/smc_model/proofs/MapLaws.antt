-- A finite map of the entries of a sorted map has these entries, and a new key is one more of them.
use Rattle.std.proofs.Common.{◌≡◌, ◌≢◌, cond, Some, None, List, [], ◌∷◌, ◌++◌, map, refl, sym, ap, ◌∙◌}
use Rattle.std.specs.Ordering.{is_eq}
use Rattle.std.specs.declared.cmp.Ordering.{Ordering}
use Rattle.std.specs.declared.cmp.Ordering.TheVariants.{Less, Equal, Greater}
use Rattle.std.specs.Cmp.{IsTotalOrder, eq_by_cmp_equiv}
use Rattle.std.specs.List.{AllByRecursion}
use Rattle.std.specs.List.Sorted.{IsStrictlySortedBy}
use Rattle.std.specs.Map.{keys_of, values_of, lookup}
use Rattle.std.specs.BTreeMap.{is_at}
use Rattle.std.specs.FinMap.{FinMap, empty, entries, get, insert, values, len-entries, len-empty, from_entries, find, put, entries-insert, get-entries, get-insert, get-from_entries, same_map}
use Rattle.std.specs.FinMap.Entries.{by_order}
use Rattle.std.proofs.lemmas.List.{map-append, nil_from_length}
use Rattle.std.proofs.lemmas.Map.Lookups.{CmpEqualImpliesEq}
use Rattle.std.proofs.lemmas.Map.Keys.{sorted_head, sorted_tail}

-- something is not nothing
not_None : {A : Type 0} (x : A) → Some x ≢ None
not_None x e = cc

module _ {K X : Type 0} {R : K → K → Ordering} (o : IsTotalOrder R) where
  -- the first entry whose key ties, by either word
  pub find-lookup : (es : List (K × X)) (q : K) → find R q es ≡ lookup (is_at (R q)) es
  find-lookup [] q = refl
  find-lookup (e ∷ es) q = ap (cond (is_at (R q) e.0) (Some e.1)) (find-lookup es q)

  -- what the map of the entries has at a key
  pub get-from_tree : (es : List (K × X)) (q : K) → get (from_entries {R = R} es) q ≡ lookup (is_at (R q)) es
  get-from_tree es q = get-from_entries o es q ∙ find-lookup es q

  -- entries that differ at one key make maps that differ there
  pub from_entries-update : CmpEqualImpliesEq R → (es fs : List (K × X)) (k : K) (v : X)
      → ((q : K) → lookup (is_at (R q)) fs ≡ cond (is_at (R k) q) (Some v) (lookup (is_at (R q)) es))
      → from_entries {R = R} fs ≡ insert (from_entries es) k v
  from_entries-update exact es fs k v h = same_map o exact _ _ (λ q.
      get-from_tree fs q ∙ h q ∙ ap (λ b. cond b (Some v) (lookup (is_at (R q)) es)) ((eq_by_cmp_equiv o).symm k q)
      ∙ sym (get-insert o (from_entries es) k v q ∙ ap (cond (is_at (R q) k) (Some v)) (get-from_tree es q)))

  -- a key below all others goes to the front
  put_below : (k : K) (v : X) (es : List (K × X)) → AllByRecursion (λ y. R k y ≡ Less) (keys_of es) → put R k v es ≡ (k, v) ∷ es
  put_below k v [] h = refl
  put_below k v (e ∷ es) h = ap (λ r. by_order r ((k, v) ∷ e ∷ es) ((e.0, v) ∷ es) (e ∷ put R k v es)) h.0

  -- the map of entries in order has just these
  pub entries-from_entries : (es : List (K × X)) → IsStrictlySortedBy R (keys_of es) → entries (from_entries {R = R} es) ≡ es
  entries-from_entries [] h = nil_from_length _ (sym (len-entries (empty {X = X} {R = R})) ∙ len-empty R X)
  entries-from_entries (e ∷ es) h =
      entries-insert o (from_entries es) e.0 e.1
      ∙ ap (put R e.0 e.1) (entries-from_entries es (sorted_tail R e.0 (keys_of es) h))
      ∙ put_below e.0 e.1 es (sorted_head R e.0 (keys_of es) h)

  -- and just their values
  pub values-from_entries : (es : List (K × X)) → IsStrictlySortedBy R (keys_of es) → values (from_entries {R = R} es) ≡ values_of es
  values-from_entries es h = ap (map (λ e. e.1)) (entries-from_entries es h)

  -- a new key stands between some entries before it and some behind
  pub put_apart : (k : K) (v : X) (es : List (K × X)) → find R k es ≡ None
      → (front : List (K × X)) × (back : List (K × X)) × (es ≡ front ++ back) × (put R k v es ≡ front ++ (k, v) ∷ back)
  put_apart k v [] h = ([], [], refl, refl)
  put_apart k v (e ∷ es) h = elim (R k e.0) as (λ r. R k e.0 ≡ r → cond (is_eq r) (Some e.1) (find R k es) ≡ None → (front : List (K × X)) × (back : List (K × X)) × (e ∷ es ≡ front ++ back) × (by_order r ((k, v) ∷ e ∷ es) ((e.0, v) ∷ es) (e ∷ put R k v es) ≡ front ++ (k, v) ∷ back)) [
    | Less ↦ λ p n. ([], e ∷ es, refl, refl)
    | Equal ↦ λ p n. absurd (not_None e.1 n)
    | Greater ↦ λ p n. let t = put_apart k v es n in (e ∷ t.0, t.1, ap (λ xs. e ∷ xs) t.2, ap (λ xs. e ∷ xs) t.3)
  ] refl h

-- the values with a new key are those without it and one more
pub values-insert : {K X : Type 0} {R : K → K → Ordering} → IsTotalOrder R → (m : FinMap R X) (k : K) (v : X) → get m k ≡ None
    → (front : List X) × (back : List X) × (values m ≡ front ++ back) × (values (insert m k v) ≡ front ++ v ∷ back)
values-insert {K} {X} {R} o m k v h =
    let t = put_apart o k v (entries m) (sym (get-entries m k) ∙ h) in
    let second : K × X → X = λ e. e.1 in (
      map second t.0,
      map second t.1,
      ap (map second) t.2 ∙ map-append second t.0 t.1,
      ap (map second) (entries-insert o m k v ∙ t.3) ∙ map-append second t.0 ((k, v) ∷ t.1),
    )
