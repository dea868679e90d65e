-- An entry has given no incarnation beyond as many as it was given.
use Rattle.std.proofs.Common.{◌≡◌, ℕ, zero, suc, ◌+◌, ◌≤◌, ◌==◌, ◌&&◌, Bool, true, false, cond, Option, Some, None, List, [], ◌∷◌, ◌++◌, length, ◌⊎◌, inl, inr, refl, sym, ap, ◌∙◌, subst, append_assoc, append-nil, arith}
use Rattle.std.specs.Prelude.{IsSome, filter, if◌then◌else◌}
use Rattle.std.specs.Option.{option_map}
use Rattle.std.proofs.lemmas.Bool.{eq-eqb}
use Rattle.std.proofs.lemmas.List.{length-append, map-append}
use Rattle.std.proofs.lemmas.List.Elements.{filter-append}
use Rattle.smc_words.specs.declared.layout.TheConstants.{INCARNATIONS}
use Rattle.smc_words.specs.declared.number.Number.{Number}
use Rattle.smc_words.specs.Number.{number_cmp}
use Rattle.std.specs.Ordering.{eq_by_cmp}
use Rattle.smc_shape.specs.Layout.{Layout, IsShape}
use Rattle.smc_model.specs.declared.event.Event.{Event}
use Rattle.smc_model.specs.declared.event.Event.TheVariants as event
use Rattle.smc_model.specs.declared.object.Object.{Object}
use Rattle.smc_model.specs.Order.{events_of}
use Rattle.smc_model.specs.World.{World, changed_at, empty_world, new_object, object_of, removed, with_word, world_after, world_through}
use Rattle.smc_model.proofs.HistoryLaws.{world_through-append}
use Rattle.smc_model.proofs.WorldLaws.{object_of-added, object_of-changed, object_of-empty, same_number}
use Rattle.smc_core.specs.declared.local.Opening.{Opening}
use Rattle.smc_core.specs.Machine.{Machine}
use Rattle.smc_rules.specs.History.{History, history_order}
use Rattle.smc_rules.specs.Reads.{object}
use Rattle.smc_chronicle.specs.Chronicle.{FitsRegion}
use Rattle.smc_chronicle.specs.Places.{GivenSeldom, gives, times_given, world_at}
use Rattle.smc_census.proofs.CountLaws.{by_order}
use Rattle.smc_chronicle.proofs.EachWorld.{each-world}

-- a number that an event leaves given was given before, or is added by it
abbrev GivenBy : World → Event → Number → Type 0
GivenBy world e n = IsSome (object_of world n) ⊎ ((coll : ℕ) × (words : List ℕ) × (e ≡ event.Add n coll words))

changed-given : (world : World) (n : Number) (change : Object → Object) (x : Number) → IsSome (object_of (changed_at world n change) x) → IsSome (object_of world x)
changed-given world n change x some = go (eq_by_cmp number_cmp x n) refl (object_of world n) refl (subst IsSome (object_of-changed world n change x) some)
  where
    go : (b : Bool) → eq_by_cmp number_cmp x n ≡ b → (found : Option Object) → object_of world n ≡ found → IsSome (cond b (option_map change found) (object_of world x)) → IsSome (object_of world x)
    go true t None at is = absurd (cc)
    go true t (Some old) at is = subst IsSome (sym at ∙ ap (object_of world) (sym (same_number x n t))) refl
    go false t found at is = is

given-by : (world : World) (e : Event) (x : Number) → IsSome (object_of (world_after world e) x) → GivenBy world e x
given-by world (event.Add n coll words) x some = go (eq_by_cmp number_cmp x n) refl (subst IsSome (object_of-added world n coll words x) some)
  where
    go : (b : Bool) → eq_by_cmp number_cmp x n ≡ b → IsSome (cond b (Some (new_object coll words)) (object_of world x)) → GivenBy world (event.Add n coll words) x
    go true t is = inr (coll, words, ap (λ (k : Number). event.Add k coll words) (sym (same_number x n t)))
    go false t is = inl is
given-by world (event.Write n field value) x some = inl (changed-given world n (λ (o : Object). with_word o field value) x some)
given-by world (event.Remove n first) x some = inl (changed-given world n removed x some)
given-by world (event.Look n h) x some = inl some
given-by world (event.Read n f v) x some = inl some
given-by world (event.Begin k c) x some = inl some
given-by world (event.Visit k n) x some = inl some
given-by world (event.End k) x some = inl some
given-by world (event.Refused c w) x some = inl some
given-by world event.Enter x some = inl some
given-by world event.Leave x some = inl some
given-by world (event.Told p c) x some = inl some

-- an order with one event more
world-more : (done : List (ℕ × Event)) (d : ℕ × Event) → world_at (done ++ d ∷ []) ≡ world_after (world_at done) d.1
world-more done d = ap (world_through empty_world) (map-append (λ (k : ℕ × Event). k.1) done (d ∷ [])) ∙ world_through-append empty_world (events_of done) (d.1 ∷ [])

adds-more : (coll entry : ℕ) (done : List (ℕ × Event)) (d : ℕ × Event) → times_given coll entry (done ++ d ∷ []) ≡ times_given coll entry done + length (filter (gives coll entry) (d.1 ∷ []))
adds-more coll entry done d =
    ap (λ (es : List Event). length (filter (gives coll entry) es)) (map-append (λ (k : ℕ × Event). k.1) done (d ∷ []))
    ∙ (ap length (filter-append (gives coll entry) (events_of done) (d.1 ∷ [])) ∙ length-append (filter (gives coll entry) (events_of done)) (filter (gives coll entry) (d.1 ∷ [])))

one-add : (coll entry a in_coll : ℕ) (words : List ℕ) → length (filter (gives coll entry) (event.Add (object a entry coll) in_coll words ∷ [])) ≡ 1
one-add coll entry a in_coll words =
    ap (λ (b : Bool). length (if b then event.Add (object a entry coll) in_coll words ∷ [] else [])) (ap (λ (b : Bool). b && (entry == entry)) (eq-eqb coll coll refl) ∙ eq-eqb entry entry refl)

module _ (shape : Layout) (opening : Opening) (coll entry : ℕ) where
  -- it has given none beyond these
  abbrev Counted : List (ℕ × Event) → Type 0
  Counted done = (a : ℕ) → IsSome (object_of (world_at done) (object a entry coll)) → a ≤ opening.incarnation + times_given coll entry done

  counted-more : (done : List (ℕ × Event)) (d : ℕ × Event) → FitsRegion shape opening (world_at (done ++ d ∷ [])) → Counted done → Counted (done ++ d ∷ [])
  counted-more done d fits counted a some =
      let more : times_given coll entry (done ++ d ∷ []) ≡ times_given coll entry done + length (filter (gives coll entry) (d.1 ∷ [])) = adds-more coll entry done d in
      elim (given-by (world_at done) d.1 (object a entry coll) (subst (λ (w : World). IsSome (object_of w (object a entry coll))) (world-more done d) some)) [
        | inl before ↦ let low : a ≤ opening.incarnation + times_given coll entry done = counted a before in omega (arith, low, more)
        | inr added ↦ new added.0 added.1 added.2 more
      ]
    where
      new : (in_coll : ℕ) (words : List ℕ) → d.1 ≡ event.Add (object a entry coll) in_coll words
          → times_given coll entry (done ++ d ∷ []) ≡ times_given coll entry done + length (filter (gives coll entry) (d.1 ∷ [])) → a ≤ opening.incarnation + times_given coll entry (done ++ d ∷ [])
      new in_coll words is more =
          let once : length (filter (gives coll entry) (d.1 ∷ [])) ≡ 1 = ap (λ (e : Event). length (filter (gives coll entry) (e ∷ []))) is ∙ one-add coll entry a in_coll words in
          last a refl some once more is
        where
          last : (k : ℕ) → a ≡ k → IsSome (object_of (world_at (done ++ d ∷ [])) (object a entry coll)) → length (filter (gives coll entry) (d.1 ∷ [])) ≡ 1
              → times_given coll entry (done ++ d ∷ []) ≡ times_given coll entry done + length (filter (gives coll entry) (d.1 ∷ []))
              → d.1 ≡ event.Add (object a entry coll) in_coll words → a ≤ opening.incarnation + times_given coll entry (done ++ d ∷ [])
          last zero same given once more is = omega (arith, same)
          last (suc b) same given once more is = by_order opening.incarnation b
              (λ low.
              let left : IsSome (object_of (world_at (done ++ d ∷ [])) (object b entry coll)) = fits.none_left_out coll entry a b given low (omega (arith, same)) in
              elim (given-by (world_at done) d.1 (object b entry coll) (subst (λ (w : World). IsSome (object_of w (object b entry coll))) (world-more done d) left)) [
                | inl before ↦ let high : b ≤ opening.incarnation + times_given coll entry done = counted b before in omega (arith, same, high, once, more)
                | inr added ↦
                    let two : event.Add (object a entry coll) in_coll words ≡ event.Add (object b entry coll) added.0 added.1 = sym is ∙ added.2 in
                    let number : object a entry coll ≡ object b entry coll = cc in
                    let one : a ≡ b = ap (λ (n : Number). n.incarnation) number in
                    absurd (omega (arith, one, same))
              ])
              (λ high. omega (arith, same, high, once, more))

  pub counted-through : (done rest earlier : List (ℕ × Event)) → ((front back : List (ℕ × Event)) → earlier ≡ front ++ back → FitsRegion shape opening (world_at front)) → done ++ rest ≡ earlier → Counted done → Counted earlier
  counted-through done [] earlier fits is counted = subst Counted (sym (append-nil done) ∙ is) counted
  counted-through done (d ∷ rest) earlier fits is counted =
      let on : (done ++ d ∷ []) ++ rest ≡ earlier = append_assoc done (d ∷ []) rest ∙ is in
      counted-through (done ++ d ∷ []) rest earlier fits on (counted-more done d (fits (done ++ d ∷ []) rest (sym on)) counted)

  pub counted-first : Counted []
  counted-first a some = let none : object_of empty_world (object a entry coll) ≡ None = object_of-empty (object a entry coll) in absurd (let no : IsSome {T = Object} None = subst IsSome none some in cc)

-- no number of the last incarnation has been given in the collection
abbrev pub LastNotGiven : World → ℕ → Type 0
LastNotGiven world coll = (number : Number) → number.coll ≡ coll → number.incarnation + 1 ≡ INCARNATIONS → object_of world number ≡ None

-- so it is where each entry was given seldom
pub last-not_given : (shape : Layout) (opening : Opening) (coll : ℕ) (last : Machine) (h : History shape opening empty_world last) (earlier later : List (ℕ × Event)) → IsShape shape
    → history_order h ≡ earlier ++ later → GivenSeldom opening coll earlier → LastNotGiven (world_at earlier) coll
last-not_given shape opening coll last h earlier later valid parts seldom number in_coll is_last = go (object_of (world_at earlier) number) refl
  where
    fits : (front back : List (ℕ × Event)) → earlier ≡ front ++ back → FitsRegion shape opening (world_at front)
    fits front back is = each-world shape opening last h front (back ++ later) valid
        (parts ∙ (ap (λ (es : List (ℕ × Event)). es ++ later) is ∙ append_assoc front back later))

    go : (found : Option Object) → object_of (world_at earlier) number ≡ found → object_of (world_at earlier) number ≡ None
    go None none = none
    go (Some o) some =
        let same : number ≡ object number.incarnation number.entry coll = ap (λ (c : ℕ). object number.incarnation number.entry c) in_coll in
        let given : IsSome (object_of (world_at earlier) (object number.incarnation number.entry coll)) = subst IsSome (sym some ∙ ap (object_of (world_at earlier)) same) refl in
        let low = seldom number.entry in
        let high : number.incarnation ≤ opening.incarnation + times_given coll number.entry earlier =
        counted-through shape opening coll number.entry [] earlier earlier fits refl (counted-first shape opening coll number.entry) number.incarnation given in
        absurd (omega (arith, high, low, is_last))
