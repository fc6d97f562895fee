-- What the texts of a run come to, from what was read of them.
use Rattle.std.proofs.Common.{◌≡◌, ◌⊎◌, inl, inr, ◌∙◌, refl, sym, ap, subst, arith, ℕ, ◌+◌, Bool, true, false, List, [], ◌∷◌, ◌++◌, length, map, Option, Some, None, Result, Ok, Err}
use Rattle.std.specs.Prelude.{All, IsSome, option_map, option_to_list, unwrap_or}
use Rattle.std.proofs.lemmas.List.{length-map}
use Rattle.std.proofs.lemmas.List.Elements.{All-cons, All-nil}
use Rattle.serde_json.specs.Data.{Data, object, no_members}
use Rattle.cacao_json.specs.Tree.{data_of}
use Rattle.cacao_json.specs.declared.tree.Tree.{Tree}
use Rattle.cacao_check.specs.Fits.{FitsKind}
use Rattle.cacao_check.specs.declared.breaks.Break.{Break}
use Rattle.flow_core_rules.specs.Accepted.{Accepted}
use Rattle.flow_core_rules.specs.Givens.{Given}
use Rattle.flow_core_setup.specs.SetupReading.{BreaksBindRule, BreaksRule}
use Rattle.flow_core_setup.specs.Setups.{AreAccepted, IsReadable}
use Rattle.cacao_cli_ends.specs.Ends.{End, bind_refused, done, no_memory, refused}
use Rattle.cacao_cli_ends.specs.Files.{NamedText}
use Rattle.cacao_cli_ends.specs.Work.{bytes_of, trees_of}
use Rattle.cacao_cli_ends.proofs.TreeLemmas.{trees-length}
use Rattle.cacao_cli_looks.specs.Command.{text_of}
use Rattle.cacao_cli_looks.specs.declared.file_text.FileText.{FileText}
use Rattle.cacao_view_preflight.specs.Preflights.{AreTexts, Judges, Preflights, Reads, SplitsOff, Warns, ready_line}
use Rattle.cacao_view_preflight.specs.Warnings.{AreWarnings, Text}
use Rattle.cacao_view_preflight.proofs.SplitLemmas.{mapped, none_mapped, some_mapped, splits_off}

-- ---- texts

pub readable_all : (texts : List FileText) → All IsReadable (map (λ (t : FileText). t.bytes) texts)
readable_all [] = All-nil IsReadable
readable_all (t ∷ ts) = All-cons IsReadable t.bytes (map (λ (t : FileText). t.bytes) ts) t.within (readable_all ts)

pub readable_bind : (o : Option FileText) → IsReadable (bytes_of (option_map text_of o))
readable_bind None = omega arith
readable_bind (Some t) = t.within

bytes_listed : (texts : List FileText) → map (λ (t : NamedText). t.bytes) (map text_of texts) ≡ map (λ (t : FileText). t.bytes) texts
bytes_listed [] = refl
bytes_listed (t ∷ ts) = ap (λ (l : List Text). t.bytes ∷ l) (bytes_listed ts)

bytes_bound : (o : Option NamedText) → bytes_of o ≡ unwrap_or (option_map (λ (t : NamedText). t.bytes) o) []
bytes_bound None = refl
bytes_bound (Some t) = refl

pub are_texts : (bound : Bool) (all front : List FileText) (last : Option FileText) (books : List Text) (bind : Text) → all ≡ front ++ option_to_list last → (bound ≡ false → last ≡ None)
    → (bound ≡ true → IsSome last) → books ≡ map (λ (t : FileText). t.bytes) front → bind ≡ bytes_of (option_map text_of last) → AreTexts bound (map text_of all) books bind
are_texts bound all front last books bind split none some books_are bind_is =
    let texts : List NamedText = map text_of all in
    let named : Option NamedText = option_map text_of last in
    let made : AreTexts bound texts (map (λ (t : NamedText). t.bytes) (map text_of front)) (unwrap_or (option_map (λ (t : NamedText). t.bytes) named) []) =
    splits_off bound [] (map (λ (t : NamedText). t.bytes) texts) (map (λ (t : NamedText). t.bytes) (map text_of front)) (option_map (λ (t : NamedText). t.bytes) named)
    (mapped (λ (t : NamedText). t.bytes) texts (map text_of front) named (mapped text_of all front last split))
    (none_mapped (λ (t : NamedText). t.bytes) bound named (none_mapped text_of bound last none)) (some_mapped (λ (t : NamedText). t.bytes) bound named (some_mapped text_of bound last some)) in
    subst (λ (l : List Text). AreTexts bound texts l bind) (bytes_listed front ∙ sym books_are)
    (subst (λ (b : Text). AreTexts bound texts (map (λ (t : NamedText). t.bytes) (map text_of front)) b) (sym (bytes_bound named) ∙ sym bind_is) made)

-- how many playbooks there are, where so many texts stand behind them
pub books_counted : (behind : ℕ) (all front : List FileText) (books : List Text) → length all ≡ behind + length front → books ≡ map (λ (t : FileText). t.bytes) front → length all ≡ behind + length books
books_counted behind all front books many are = many ∙ ap (λ n. behind + n) (sym (ap length are ∙ length-map front (λ (t : FileText). t.bytes)))

-- ---- warnings

pub warns : (bound : Bool) (all front : List Tree) (last : Option Tree) (bindings : Data) (given : Given) (warned lines : List Text) → all ≡ front ++ option_to_list last
    → (bound ≡ false → last ≡ None) → (bound ≡ true → IsSome last) → bindings ≡ unwrap_or (option_map data_of last) (object no_members) → AreWarnings given.books (map data_of front) bindings warned
    → lines ≡ warned ++ ready_line (length warned) ∷ [] → Warns bound (map data_of all) given lines
warns bound all front last bindings given warned lines split none some is exact are = record {
  trees = map data_of front;
  bindings = bindings;
  are =
      subst (λ (d : Data). SplitsOff bound (object no_members) (map data_of all) (map data_of front) d) (sym is)
      (splits_off bound (object no_members) (map data_of all) (map data_of front) (option_map data_of last) (mapped data_of all front last split) (none_mapped data_of bound last none)
      (some_mapped data_of bound last some));
  warned = warned;
  warns = exact;
  lines_are = are;
}

-- ---- what they come to

pub judged_broken : (bound : Bool) (texts : List NamedText) (roots : List Data) (books : List Text) (bind : Text) (broken : Break) (lines : List Text) (end : End) → AreTexts bound texts books bind
    → BreaksRule books bind broken → lines ≡ [] → end ≡ refused broken → Judges bound texts roots lines end
judged_broken bound texts roots books bind broken lines end are breaks nothing ends =
    inl (record { books = books; bind = bind; are = are; broken = broken; breaks = breaks; nothing = nothing; ends = ends })

pub judged_bind : (bound : Bool) (texts : List NamedText) (roots : List Data) (books : List Text) (bind : Text) (rule : ℕ) (lines : List Text) (end : End) → AreTexts bound texts books bind
    → BreaksBindRule books bind rule → lines ≡ [] → end ≡ bind_refused rule → Judges bound texts roots lines end
judged_bind bound texts roots books bind rule lines end are breaks nothing ends =
    inr (inl (record { books = books; bind = bind; are = are; rule = rule; breaks = breaks; nothing = nothing; ends = ends }))

pub judged_ready : (bound : Bool) (texts : List NamedText) (roots : List Data) (books : List Text) (bind : Text) (given : Given) (lines : List Text) (end : End) → AreTexts bound texts books bind
    → Accepted AreAccepted FitsKind books bind given → Warns bound roots given lines → end ≡ done → Judges bound texts roots lines end
judged_ready bound texts roots books bind given lines end are accepted warned ends =
    inr (inr (record { books = books; bind = bind; are = are; given = given; accepted = accepted; warns = warned; ends = ends }))

pub unread : (bound : Bool) (texts : List NamedText) (lines : List Text) (end why : End) → (trees_of texts ≡ Err why) ⊎ (why ≡ no_memory) → lines ≡ [] → end ≡ why → Preflights bound texts lines end
unread bound texts lines end why (inl e) nothing is = inl (subst (λ (r : Result (List Data) End). Reads bound texts r lines end) (sym e) (nothing, is))
unread bound texts lines end why (inr e) nothing is = inr (nothing, is ∙ e)

pub all_read : (bound : Bool) (texts : List NamedText) (roots : List Data) (lines : List Text) (end : End) → trees_of texts ≡ Ok roots
    → Judges bound texts roots lines end ⊎ ((lines ≡ []) × (end ≡ no_memory)) → Preflights bound texts lines end
all_read bound texts roots lines end e (inl judges) = inl (subst (λ (r : Result (List Data) End). Reads bound texts r lines end) (sym e) judges)
all_read bound texts roots lines end e (inr wants) = inr wants

-- the trees of the code, and the texts that it read
pub trees_read : (texts : List FileText) (trees : List Tree) → trees_of (map text_of texts) ≡ Ok (map data_of trees) → length trees ≡ length texts
trees_read texts trees e = sym (length-map trees data_of) ∙ trees-length (map text_of texts) (map data_of trees) e ∙ length-map texts text_of
