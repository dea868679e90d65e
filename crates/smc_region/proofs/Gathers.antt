-- Two seats are made one.
use Rattle.std.proofs.Common.{◌≡◌, ◌≢◌, ℕ, List, [], ◌∷◌, ◌++◌, set, refl, sym, ◌∙◌, subst, ⊎_elim, eq-eqb, ne_eqb}
use Rattle.std.specs.Prelude.{if◌then◌else◌, ◌==◌}
use Rattle.std.specs.List.{AllByRecursion}
use mathlib.Core.Option.{some}
use lib.ListN.{get_elem?}
use Rattle.atomic_table.specs.Table.{Joins}
use Rattle.atomic_table.proofs.Lists.{at_set, set_else}
use Rattle.smc_shape.specs.Layout.{Layout}
use Rattle.smc_core.specs.declared.local.Local.{Local}
use Rattle.smc_region.specs.declared.law.View.{View}
use Rattle.smc_region.specs.declared.law.NoteSeen.{NoteSeen}
use Rattle.smc_core.specs.declared.local.Opening.{Opening}
use Rattle.smc_region.specs.Rule.{Fits, HoldsLocal, HoldsNote}
use Rattle.smc_region.specs.Views.{gathered, spent}
use Rattle.smc_region.proofs.Keeps.{Rule}

-- what the seat `other` had goes to the seat `id`
abbrev gone : ℕ → ℕ → ℕ → ℕ
gone id other owner = if owner == other then id else owner

gone_there : (id other owner : ℕ) → owner ≡ other → gone id other owner ≡ id
gone_there id other owner is = rw (eq-eqb owner other is) refl

gone_not : (id other owner : ℕ) → owner ≢ other → gone id other owner ≡ owner
gone_not id other owner ne = rw (ne_eqb owner other ne) refl

all_append : {A : Type 0} (P : A → Type 0) (xs ys : List A) → AllByRecursion P xs → AllByRecursion P ys → AllByRecursion P (xs ++ ys)
all_append P [] ys h k = k
all_append P (x ∷ xs) ys (h, hs) k = (h, all_append P xs ys hs k)

module _ (shape : Layout) (locals : List Local) (owner : ℕ → ℕ) (noted : ℕ → ℕ → ℕ) (id other : ℕ) where
  abbrev owner' : ℕ → ℕ
  owner' q = gone id other (owner q)

  abbrev noted' : ℕ → ℕ → ℕ
  noted' j k = gone id other (noted j k)

  passes_there : (told told' : Layout) (xs : List (ℕ × Local)) → told' ≡ told → AllByRecursion (HoldsLocal shape locals owner other told) xs → AllByRecursion (HoldsLocal shape locals owner' id told') xs
  passes_there told told' [] same h = tt
  passes_there told told' (x ∷ xs) same (h, hs) = ((same ∙ h.0, gone_there id other (owner x.0) h.1, h.2), passes_there told told' xs same hs)

  passes_else : (j : ℕ) (told : Layout) (xs : List (ℕ × Local)) → j ≢ other → AllByRecursion (HoldsLocal shape locals owner j told) xs → AllByRecursion (HoldsLocal shape locals owner' j told) xs
  passes_else j told [] ne h = tt
  passes_else j told (x ∷ xs) ne (h, hs) = ((h.0, gone_not id other (owner x.0) (λ e. ne (sym h.1 ∙ e)) ∙ h.1, h.2), passes_else j told xs ne hs)

  notes_there : (ns : List NoteSeen) → AllByRecursion (HoldsNote locals noted other) ns → AllByRecursion (HoldsNote locals noted' id) ns
  notes_there [] h = tt
  notes_there (n ∷ ns) (h, hs) = (record { owned = gone_there id other (noted n.pass n.number) h.owned; has = h.has; unlearnt = h.unlearnt }, notes_there ns hs)

  notes_else : (j : ℕ) (ns : List NoteSeen) → j ≢ other → AllByRecursion (HoldsNote locals noted j) ns → AllByRecursion (HoldsNote locals noted' j) ns
  notes_else j [] ne h = tt
  notes_else j (n ∷ ns) ne (h, hs) = (record { owned = gone_not id other (noted n.pass n.number) (λ e. ne (sym h.owned ∙ e)) ∙ h.owned; has = h.has; unlearnt = h.unlearnt }, notes_else j ns ne hs)

pub gathers : (shape : Layout) (opens : Opening) (id : ℕ) (v : View) (other : ℕ) (w : View) → v.shape ≡ w.shape → Joins (Rule shape opens) id v other w (gathered v w) spent
gathers shape opens id v other w same s kept at apart at' =
    let ne : id ≢ other = λ e. apart (sym e) in
    let mine : Fits shape kept.locals kept.owner kept.noter id v = kept.fits id v at in
    let theirs : Fits shape kept.locals kept.owner kept.noter other w = kept.fits other w (sym (set_else s.views id other (gathered v w) apart) ∙ at') in
    let o : ℕ → ℕ = owner' shape kept.locals kept.owner kept.noter id other in
    let n : ℕ → ℕ → ℕ = noted' shape kept.locals kept.owner kept.noter id other in
    record {
      locals = kept.locals;
      owner = o;
      noter = n;
      reached = kept.reached;
      fits = λ j u is. ⊎_elim
          (λ (h : (j ≡ other) × (spent ≡ u)). subst (λ (x : View). Fits shape kept.locals o n j x) h.1 record { passes = tt; notes = tt })
          (λ (h : (j ≢ other) × (get_elem? (set s.views id (gathered v w)) j ≡ some u)). ⊎_elim
          (λ (g : (j ≡ id) × (gathered v w ≡ u)). subst (λ (x : View). Fits shape kept.locals o n j x) g.1 (subst (λ (z : ℕ). Fits shape kept.locals o n z (gathered v w)) (sym g.0)
          record {
            passes = all_append (HoldsLocal shape kept.locals o id v.shape) w.locals v.locals (passes_there shape kept.locals kept.owner kept.noter id other w.shape v.shape w.locals same theirs.passes) (passes_else shape kept.locals kept.owner kept.noter id other id v.shape v.locals ne mine.passes);
            notes = all_append (HoldsNote kept.locals n id) w.notes v.notes (notes_there shape kept.locals kept.owner kept.noter id other w.notes theirs.notes) (notes_else shape kept.locals kept.owner kept.noter id other id v.notes ne mine.notes);
          }))
          (λ (g : (j ≢ id) × (get_elem? s.views j ≡ some u)). let f = kept.fits j u g.1 in
          record { passes = passes_else shape kept.locals kept.owner kept.noter id other j u.shape u.locals h.0 f.passes; notes = notes_else shape kept.locals kept.owner kept.noter id other j u.notes h.0 f.notes })
          (at_set s.views id j (gathered v w) u h.1))
          (at_set (set s.views id (gathered v w)) other j spent u is);
    }
