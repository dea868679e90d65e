use Rattle.std.proofs.Common.{◌≡◌, sym, ◌∙◌, arith}
use Rattle.smc_tokens.specs.Tokens.{is_civil, year_of, month_of, day_of}
use Rattle.smc_tokens.proofs.DateLaws.{form_digits, no_form, no_civil, too_short, no_date, date_found}
use Rattle.smc_tokens.proofs.date.read_date.Goals as goal

pub returns-then-text-lt-DATE : goal.returns-then-text-lt-DATE
returns-then-text-lt-DATE c = too_short c.args.text.now (omega arith)

pub returns-then-not-has_date_form : goal.returns-then-not-has_date_form
returns-then-not-has_date_form c =
    let front = c.split_at.result.0.now in
    no_date c.args.text.now front c.split_at.ensures.front (no_form front (sym c.has_date_form.ensures ∙ c.if-not-has_date_form.true))

pub digits_at-month-requires-clause-digits : goal.digits_at-month-requires-clause-digits
digits_at-month-requires-clause-digits c = (form_digits c.split_at.result.0.now (sym c.has_date_form.ensures ∙ c.if-not-has_date_form.false)).month

pub digits_at-day-requires-clause-digits : goal.digits_at-day-requires-clause-digits
digits_at-day-requires-clause-digits c = (form_digits c.split_at.result.0.now (sym c.has_date_form.ensures ∙ c.if-not-has_date_form.false)).day

pub returns-then-not-is_civil : goal.returns-then-not-is_civil
returns-then-not-is_civil c =
    let front = c.split_at.result.0.now in
    let same : is_civil c.digits_at-year.result c.digits_at-month.result c.digits_at-day.result ≡ is_civil (year_of front) (month_of front) (day_of front) =
    cc (c.digits_at-year.ensures.value, c.digits_at-month.ensures.value, c.digits_at-day.ensures.value) in
    no_date c.args.text.now front c.split_at.ensures.front (no_civil front (sym same ∙ sym c.is_civil.ensures ∙ c.if-not-is_civil.true))

pub returns : goal.returns
returns c =
    let (takes, ascii) = date_found c.args.text.now c.split_at.result.0.now _ _ _ c.split_at.ensures.front c.if-text-lt-DATE.false
    (sym c.has_date_form.ensures ∙ c.if-not-has_date_form.false)
    c.digits_at-year.ensures.value c.digits_at-month.ensures.value c.digits_at-day.ensures.value (sym c.is_civil.ensures ∙ c.if-not-is_civil.false) in
    record { takes = takes; ascii = ascii }
