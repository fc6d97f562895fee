use Rattle.std.proofs.Common.{◌≡◌, ◌∙◌, refl, sym, ap, subst, arith, ◌+◌, true, List, length, map}
use Rattle.std.specs.Prelude.{All, IsSome, if◌then◌else◌}
use Rattle.cacao_json.specs.Tree.{data_of}
use Rattle.cacao_check.specs.Fits.{FitsKind}
use Rattle.flow_core_rules.specs.Accepted.{Accepted}
use Rattle.flow_core_setup.specs.SetupReading.{BreaksBindRule, BreaksRule, RefusesTexts}
use Rattle.flow_core_setup.specs.Setups.{AreAccepted, IsReadable}
use Rattle.flow_core_setup.specs.declared.setup_errors.SetupError.{SetupError}
use Rattle.cacao_cli_ends.specs.Ends.{done}
use Rattle.cacao_cli_ends.specs.Told.{end_of}
use Rattle.cacao_cli_looks.specs.Command.{text_of}
use Rattle.cacao_view_preflight.specs.Preflights.{AreTexts}
use Rattle.cacao_view_preflight.specs.Warnings.{Text}
use Rattle.cacao_view_preflight.proofs.FlightLemmas.{are_texts, books_counted, judged_bind, judged_broken, judged_ready, readable_all, readable_bind}
use Rattle.cacao_view_preflight.proofs.SplitLemmas.{front_length}
use Rattle.cacao_view_preflight.proofs.flight.judged.Goals as goal

pub read-requires-clause-some : goal.read-requires-clause-some
read-requires-clause-some c =
    let there : c.args.bound ≡ true → IsSome c.last_if-last.result = λ e. c.last_if-last.ensures.some e (omega (arith, c.requires.some)) in
    let many : length c.args.texts.items ≡ (if c.args.bound then 1 else 0) + length c.in_ok-books.books.items =
    books_counted (if c.args.bound then 1 else 0) c.args.texts.items c.last_if-last.new.items.items c.in_ok-books.books.items
    (front_length c.args.bound c.args.texts.items c.last_if-last.new.items.items c.last_if-last.result c.last_if-last.ensures.items c.last_if-last.ensures.none there) c.in_ok-books.ensures in
    omega (arith, c.requires.some, many, ap length c.as_slice.ensures.value)

pub read-requires-clause-few : goal.read-requires-clause-few
read-requires-clause-few c =
    let there : c.args.bound ≡ true → IsSome c.last_if-last.result = λ e. c.last_if-last.ensures.some e (omega (arith, c.requires.some)) in
    let many : length c.args.texts.items ≡ (if c.args.bound then 1 else 0) + length c.in_ok-books.books.items =
    books_counted (if c.args.bound then 1 else 0) c.args.texts.items c.last_if-last.new.items.items c.in_ok-books.books.items
    (front_length c.args.bound c.args.texts.items c.last_if-last.new.items.items c.last_if-last.result c.last_if-last.ensures.items c.last_if-last.ensures.none there) c.in_ok-books.ensures in
    omega (arith, c.requires.few, many, ap length c.as_slice.ensures.value)

pub read-requires-clause-readable : goal.read-requires-clause-readable
read-requires-clause-readable c = subst (All IsReadable) (sym (c.as_slice.ensures.value ∙ c.in_ok-books.ensures)) (readable_all c.last_if-last.new.items.items)

pub read-requires-clause-readable_bind : goal.read-requires-clause-readable_bind
read-requires-clause-readable_bind c = subst IsReadable (sym c.in_ok-bind.ensures) (readable_bind c.last_if-last.result)

pub warned-requires : goal.warned-requires
warned-requires c e = omega (arith, c.requires.some, c.requires.trees)

pub returns-in-Ok : goal.returns-in-Ok
returns-in-Ok c =
    let books : List Text = c.in_ok-books.books.items in
    let there : c.args.bound ≡ true → IsSome c.last_if-last.result = λ e. c.last_if-last.ensures.some e (omega (arith, c.requires.some)) in
    let are : AreTexts c.args.bound (map text_of c.args.texts.items) books c.in_ok-bind.bind =
    are_texts c.args.bound c.args.texts.items c.last_if-last.new.items.items c.last_if-last.result books c.in_ok-bind.bind c.last_if-last.ensures.items c.last_if-last.ensures.none there c.in_ok-books.ensures
    c.in_ok-bind.ensures in
    judged_ready c.args.bound (map text_of c.args.texts.items) (map data_of c.args.trees.items) books c.in_ok-bind.bind c.in-Ok.setup c.in_ok-lines-in-Ok.lines done are
    (subst (λ (l : List Text). Accepted AreAccepted FitsKind l c.in_ok-bind.bind c.in-Ok.setup) c.as_slice.ensures.value c.in-Ok.ensures.ok) c.in_ok-lines-in-Ok.ensures refl

pub returns-in-Err-Broken : goal.returns-in-Err-Broken
returns-in-Err-Broken c =
    let books : List Text = c.in_ok-books.books.items in
    let there : c.args.bound ≡ true → IsSome c.last_if-last.result = λ e. c.last_if-last.ensures.some e (omega (arith, c.requires.some)) in
    let are : AreTexts c.args.bound (map text_of c.args.texts.items) books c.in_ok-bind.bind =
    are_texts c.args.bound c.args.texts.items c.last_if-last.new.items.items c.last_if-last.result books c.in_ok-bind.bind c.last_if-last.ensures.items c.last_if-last.ensures.none there c.in_ok-books.ensures
    c.in_ok-bind.ensures in
    let breaks : BreaksRule c.as_slice.result.now c.in_ok-bind.bind c.in-Err-Broken.broken =
    subst (λ (e : SetupError). RefusesTexts c.as_slice.result.now c.in_ok-bind.bind e) c.in-Err-Broken.field-0-is c.in-Err-Broken.ensures.err in
    judged_broken c.args.bound (map text_of c.args.texts.items) (map data_of c.args.trees.items) books c.in_ok-bind.bind c.in-Err-Broken.broken c.ending.result.lines
    (end_of c.ending.result.end) are (subst (λ (l : List Text). BreaksRule l c.in_ok-bind.bind c.in-Err-Broken.broken) c.as_slice.ensures.value breaks)
    c.ending.ensures.lines c.ending.ensures.end

pub returns-in-Err-Bind : goal.returns-in-Err-Bind
returns-in-Err-Bind c =
    let books : List Text = c.in_ok-books.books.items in
    let there : c.args.bound ≡ true → IsSome c.last_if-last.result = λ e. c.last_if-last.ensures.some e (omega (arith, c.requires.some)) in
    let are : AreTexts c.args.bound (map text_of c.args.texts.items) books c.in_ok-bind.bind =
    are_texts c.args.bound c.args.texts.items c.last_if-last.new.items.items c.last_if-last.result books c.in_ok-bind.bind c.last_if-last.ensures.items c.last_if-last.ensures.none there c.in_ok-books.ensures
    c.in_ok-bind.ensures in
    let breaks : BreaksBindRule c.as_slice.result.now c.in_ok-bind.bind c.in-Err-Bind.rule =
    subst (λ (e : SetupError). RefusesTexts c.as_slice.result.now c.in_ok-bind.bind e) c.in-Err-Bind.field-0-is c.in-Err-Bind.ensures.err in
    judged_bind c.args.bound (map text_of c.args.texts.items) (map data_of c.args.trees.items) books c.in_ok-bind.bind c.in-Err-Bind.rule c.ending-in-Err-Bind.result.lines
    (end_of c.ending-in-Err-Bind.result.end) are (subst (λ (l : List Text). BreaksBindRule l c.in_ok-bind.bind c.in-Err-Bind.rule) c.as_slice.ensures.value breaks)
    c.ending-in-Err-Bind.ensures.lines c.ending-in-Err-Bind.ensures.end
