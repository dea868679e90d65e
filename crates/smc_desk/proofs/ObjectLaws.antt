-- What the commands on one object do, told from the calls that they are made of.
use Rattle.std.proofs.Common.{◌≡◌, ℕ, List, [], ◌∷◌, Option, Some, None, Result, Ok, Err, IfOk, inl, inr, refl, sym, subst, ap, ◌∙◌}
use Rattle.std.specs.Prelude.{Bool, OnOk, codes, length, slice_get}
use Rattle.smc_words.specs.declared.number.Number.{Number}
use Rattle.smc_region.specs.Callers.{Caller}
use Rattle.smc_trace.specs.Trace.{CallEnd}
use Rattle.smc_does.specs.Does.{DoesSome}
use Rattle.smc_does.proofs.DoesLaws.{does-nothing}
use Rattle.smc_objects.specs.Alone.{InSection, ReadsObject, RemovesObject, SetsField}
use Rattle.smc_query.specs.Trees.{Word}
use Rattle.smc_types.specs.Columns.{columns_width}
use Rattle.smc_types.specs.Records.{value_words}
use Rattle.smc_types.specs.declared.column.Column.{Column}
use Rattle.smc_types.specs.declared.row.Value.{Value}
use Rattle.smc_types.specs.declared.schema.Schema.{Schema}
use Rattle.smc_script.specs.Tables.{column_at}
use Rattle.smc_script.specs.declared.script.Place.{Place}
use Rattle.smc_load.specs.Loading.{Entries, LoadsAs, RefusesRow, RowEnds, place_of}
use Rattle.smc_load.specs.declared.rows.RowFault.TheVariants as row
use Rattle.smc_replies.specs.Books.{Books, with_name}
use Rattle.smc_replies.specs.Objects.{AddsBy, GetsBy, OnObject, PrintsObject, RemovesNamed, SetsBy, add_line, found_line, null_line, words_of}

module _ {E : Type 0} where
  -- ---- names

  -- a name has no object: nothing is done
  pub on-none : (object : Option Number) (does : Number → List CallEnd → List ℕ → Type 0) (pass : Caller) (reply : Result (List ℕ) E) → object ≡ None
      → IfOk reply (λ text. text ≡ null_line) → IfOk reply (λ text. DoesSome pass pass (λ calls. OnObject object does calls text))
  on-none object does pass (Ok text) is null = ([], does-nothing pass, subst (λ (o : Option Number). OnObject o does [] text) (sym is) (refl, null))
  on-none object does pass (Err fault) is null = tt

  -- it has one
  pub on-some : (object : Option Number) (number : Number) (does : Number → List CallEnd → List ℕ → Type 0) (old new : Caller) (reply : Result (List ℕ) E) → object ≡ Some number
      → IfOk reply (λ text. DoesSome old new (λ calls. does number calls text)) → IfOk reply (λ text. DoesSome old new (λ calls. OnObject object does calls text))
  on-some object number does old new reply is done =
      subst (λ (o : Option Number). IfOk reply (λ text. DoesSome old new (λ calls. OnObject o does calls text))) (sym is) done

  -- ---- add

  pub adds-done : (by : Option Schema) (schema : Schema) (place : Place) (name : Word) (values : List Value) (words : List ℕ) (known now : Books) (old new : Caller) (number : Number) (reply : Result (List ℕ) E)
      → by ≡ Some schema → words ≡ words_of schema values → RowEnds (Ok number) schema place.table place.coll known.keys now.keys words old new
      → OnOk reply (now.names ≡ with_name name (Some number) known.names) → now.folds ≡ known.folds → IfOk reply (λ text. text ≡ add_line (Some number) name)
      → IfOk reply (λ text. DoesSome old new (λ calls. AddsBy by place name values known now calls text))
  adds-done by schema place name values words known now old new number (Ok text) is are ends names folds says =
      let done = subst (λ (w : List ℕ). RowEnds (Ok number) schema place.table place.coll known.keys now.keys w old new) are ends in
      let same = ap (λ (n : Number). with_name name (Some n) known.names) (sym done.2.1) in (
        done.0,
        done.1,
        subst (λ (s : Option Schema). AddsBy s place name values known now done.0 text) (sym is)
            (inl (record { loads = done.2.0; names = names ∙ same; folds = folds; reply = says })),
      )
  adds-done by schema place name values words known now old new number (Err fault) is are ends names folds says = tt

  pub adds-full : (by : Option Schema) (schema : Schema) (place : Place) (name : Word) (values : List Value) (words : List ℕ) (known now : Books) (old new : Caller) (reply : Result (List ℕ) E)
      → by ≡ Some schema → words ≡ words_of schema values → RowEnds (Err row.Full) schema place.table place.coll known.keys now.keys words old new
      → OnOk reply (now.names ≡ with_name name None known.names) → now.folds ≡ known.folds → IfOk reply (λ text. text ≡ add_line None name)
      → IfOk reply (λ text. DoesSome old new (λ calls. AddsBy by place name values known now calls text))
  adds-full by schema place name values words known now old new (Ok text) is are ends names folds says =
      let done = subst (λ (w : List ℕ). RowEnds (Err row.Full) schema place.table place.coll known.keys now.keys w old new) are ends in (
        done.1.0,
        done.1.1,
        subst (λ (s : Option Schema). AddsBy s place name values known now done.1.0 text) (sym is)
            (inr (record { refuses = done.1.2; keys = done.0; names = names; folds = folds; reply = says })),
      )
  adds-full by schema place name values words known now old new (Err fault) is are ends names folds says = tt

  -- ---- set, remove

  pub sets-done : (by : Option Schema) (schema : Schema) (name : Word) (value : Value) (number : Number) (at : ℕ) (column : Column) (word : ℕ) (found : Bool) (old new : Caller) (reply : Result (List ℕ) E)
      → by ≡ Some schema → column_at schema.columns name ≡ Some at → slice_get schema.columns at ≡ Some column → value_words column.kind value ≡ word ∷ []
      → DoesSome old new (InSection (SetsField number (place_of schema.columns at) word found)) → IfOk reply (λ text. text ≡ found_line found (codes "set\n"))
      → IfOk reply (λ text. DoesSome old new (λ calls. SetsBy by name value number calls text))
  sets-done by schema name value number at column word found old new (Ok text) is named there one done says = (
    done.0,
    done.1,
    subst (λ (s : Option Schema). SetsBy s name value number done.0 text) (sym is)
        (record { at = at; column = column; word = word; found = found; named = named; there = there; is = one; sets = done.2; reply = says }),
  )
  sets-done by schema name value number at column word found old new (Err fault) is named there one done says = tt

  pub removes-done : (number : Number) (gone : Bool) (old new : Caller) (reply : Result (List ℕ) E) → DoesSome old new (InSection (RemovesObject number gone))
      → IfOk reply (λ text. text ≡ found_line gone (codes "removed\n")) → IfOk reply (λ text. DoesSome old new (λ calls. RemovesNamed number calls text))
  removes-done number gone old new (Ok text) done says = (done.0, done.1, record { gone = gone; removes = done.2; reply = says })
  removes-done number gone old new (Err fault) done says = tt

  -- ---- commands

  -- what is known stays, where a command gives no name
  pub kept-run : (Runs : List CallEnd → List ℕ → Type 0) (known now : Books) (old new : Caller) (reply : Result (List ℕ) E) → now ≡ known
      → IfOk reply (λ text. DoesSome old new (λ calls. Runs calls text)) → IfOk reply (λ text. DoesSome old new (λ calls. (now ≡ known) × Runs calls text))
  kept-run Runs known now old new (Ok text) same done = (done.0, done.1, (same, done.2))
  kept-run Runs known now old new (Err fault) same done = tt
