-- The file of bindings, which is named where the number is past the playbooks.
use Rattle.std.proofs.Common.{◌≡◌, ◌∙◌, inr, ap, sym, subst, arith, ℕ, ◌<◌, ◌≤◌, List, length, Bor}
use Rattle.std.proofs.lemmas.List.{length-map}
use Rattle.std.specs.Prelude.{option_map}
use Rattle.cacao_cli_words.specs.Commands.{run_request}
use Rattle.cacao_cli_words.specs.Words.{Text}
use Rattle.cacao_cli_starts.proofs.judging.unreadable_end.Goals as goal

pub returns : goal.returns
returns c = (
  c.in-Some.name.now,
  inr (
    subst (λ (n : ℕ). n ≤ c.args.file) (sym (length-map c.args.wanted.now.books.items.items (λ (name : Bor Text). name.now))) (subst (λ (l : List (Bor Text)). length l ≤ c.args.file) c.as_slice-books.ensures.value c.if-file-books.false),
    ap (option_map (λ (name : Bor Text). name.now)) c.in-Some.is,
  ),
  c.json_end-in-Some.ensures,
)

pub unreachable-requires : goal.unreachable-requires
unreachable-requires c =
    let before : c.args.file < length (run_request c.args.wanted.now).books = c.requires (ap (option_map (λ (name : Bor Text). name.now)) c.in-None.is) in
    let count : length (run_request c.args.wanted.now).books ≡ length c.as_slice-books.result.now = length-map c.args.wanted.now.books.items.items (λ (name : Bor Text). name.now) ∙ ap (λ (l : List (Bor Text)). length l) (sym c.as_slice-books.ensures.value) in
    absurd (omega (arith, before, count, c.if-file-books.false))
