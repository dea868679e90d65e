use Rattle.std.proofs.Common.{arith, ap, sym, string_bytes, Some}
use Rattle.std.proofs.lemmas.Bool.{false_from_ne_true}
use Rattle.std.proofs.lemmas.Map.Text.{text_keys}
use Rattle.std.specs.Option.{option_map}
use Rattle.std.specs.Ordering.{eq_by_cmp}
use Rattle.smc_words.specs.Number.{number_cmp}
use Rattle.smc_model.proofs.WorldLaws.{same_number}
use Rattle.smc_schedule.proofs.names.Names.settle.Goals as goal

pub returns-in-Some-clause-done : goal.returns-in-Some-clause-done
returns-in-Some-clause-done c = record { here = grind (arith, text_keys); others = λ other differs. grind (arith, text_keys) }

pub returns-in-Some-clause-named : goal.returns-in-Some-clause-named
returns-in-Some-clause-named c =
    let updates = c.in_ok-insert.ensures.updates in
    let number = c.args.number in
    record {
      here = rw updates.1 (ap Some c.in_ok-text.ensures.ok);
      others = λ other differs.
          ap (option_map string_bytes)
          (updates.2 other (false_from_ne_true (eq_by_cmp number_cmp number other) (λ same. differs (sym (same_number number other same)))));
    }
