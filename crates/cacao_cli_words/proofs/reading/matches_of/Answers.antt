-- What clap answers is the reading of the words.
use Rattle.std.proofs.Common.{◌≡◌, ◌∙◌, ◌<◌, sym, ap, subst, map, drop, length, false, true, List, [], ⊎_elim, string_bytes, Bor}
use Rattle.std.proofs.lemmas.List.{length-map}
use Rattle.clap.specs.Words.{App, app_of, found_of, rows_of, is_simple, is_simple_and_free, fault_of, matches_of, IsAmong, kind_of}
use Rattle.cacao_cli_words.specs.ClapCommand.{app}
use Rattle.cacao_cli_words.specs.Hyphens.{passes}
use Rattle.cacao_cli_words.specs.Words.{Text, nothing_read, before_dashes}
use Rattle.cacao_cli_words.proofs.ClapLemmas.{refused, read_ok, read_err, is_simple_app, is_simple_free, rest_of}
use Rattle.cacao_cli_words.proofs.reading.matches_of.Goals as goal

pub returns-then-not-pass : goal.returns-then-not-pass
returns-then-not-pass c =
    let os : List Text = map (λ (x : Bor Text). x.now) c.args.options.now in
    let e : passes false (drop 1 (map string_bytes c.args.words.now)) ≡ false = sym (ap (passes false) (rest_of (λ s. string_bytes s) c.args.words.now)) ∙ sym c.pass.ensures ∙ c.if-not-pass.true in
    refused os (drop 1 (map string_bytes c.args.words.now)) nothing_read before_dashes e

pub returns-in-Ok : goal.returns-in-Ok
returns-in-Ok c =
    let os : List Text = map (λ (x : Bor Text). x.now) c.args.options.now in
    let all : List Text = map string_bytes c.args.words.now in
    let is : app_of c.in_ok-words_command.field-0 ≡ app os = c.in_ok-words_command.ensures in
    let e : passes false (drop 1 all) ≡ true = sym (ap (passes false) (rest_of (λ s. string_bytes s) c.args.words.now)) ∙ sym c.pass.ensures ∙ c.if-not-pass.false in
    let some : 0 < length all = rw length-map c.requires.some in
    let fault : fault_of (app os) all ≡ [] = ap (λ (a : App). fault_of a all) (sym is) ∙ c.in-Ok.ensures.kinds (ap is_simple_and_free is ∙ is_simple_free os) in
    let rows : rows_of (found_of c.in-Ok.matches) ≡ matches_of (app os) all = (c.in-Ok.ensures.matches (ap is_simple is ∙ is_simple_app os)).0 ∙ ap (λ (a : App). matches_of a all) is in
    read_ok os c.requires.apart all some e fault (rows_of (found_of c.in-Ok.matches)) rows

pub returns : goal.returns
returns c =
    let os : List Text = map (λ (x : Bor Text). x.now) c.args.options.now in
    let all : List Text = map string_bytes c.args.words.now in
    let is : app_of c.in_ok-words_command.field-0 ≡ app os = c.in_ok-words_command.ensures in
    let e : passes false (drop 1 all) ≡ true = sym (ap (passes false) (rest_of (λ s. string_bytes s) c.args.words.now)) ∙ sym c.pass.ensures ∙ c.if-not-pass.false in
    let some : 0 < length all = rw length-map c.requires.some in
    let has = c.in-Err.ensures.kinds (ap is_simple_and_free is ∙ is_simple_free os) in
    ⊎_elim (λ m. absurd (c.in_default.not-OutOfMemory (c.kind.ensures ∙ m)))
    (λ among. read_err os c.requires.apart all some e (kind_of c.in-Err.error) (subst (λ (a : App). IsAmong (kind_of c.in-Err.error) (fault_of a all)) is among)) has
