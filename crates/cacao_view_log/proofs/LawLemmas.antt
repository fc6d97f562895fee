-- The laws of lines and of objects.
use Rattle.std.proofs.Common.{◌≡◌, ℕ, zero, suc, ◌<◌, ◌^◌, Bool, true, false, cond, List, [], ◌∷◌, length, map, Option, Some, None, arith, refl, ap, sym, ◌∙◌}
use Rattle.std.specs.Prelude.{decimal, nat_le, slice_get}
use Rattle.std.specs.Str.{is_utf8}
use Rattle.base_decimals.proofs.Signed.{numbers_read_back}
use Rattle.serde_json.specs.Data.{object, string}
use Rattle.cacao_json.specs.Tree.{items_of, members_of}
use Rattle.oc2_msg_targets.specs.Parts.{whole_data}
use Rattle.run_records.specs.Fields.{◌>>=◌}
use Rattle.run_records.specs.Ranges.{RepliesInRange, TellsInRange}
use Rattle.run_records.specs.declared.record.Record.TheVariants as entry
use Rattle.flow_core_rules.specs.State.{Shown}
use Rattle.flow_engine_history.proofs.HistoryLemmas.{get_within}
use Rattle.cacao_view_log.specs.Laws.{LinesAreSaid, ObjectsReadBack}
use Rattle.cacao_view_log.specs.Logs.{IsToldAt}
use Rattle.cacao_view_log.specs.Objects.{bytes_data, expire_members, most_whole, number_data, reply_members, text_data, told_members}
use Rattle.cacao_view_log.specs.ReadBack.{all_texts, bytes_in, number_in, record_in, text_in}
use Rattle.cacao_view_log.specs.declared.form.Form.TheVariants as form
use Rattle.cacao_view_log.specs.declared.sender.Sender.{Sender}
use Rattle.cacao_view_log.proofs.LogLemmas.{inner}

-- ---- lines

there : {A : Type 0} (xs : List A) (n : ℕ) → n < length xs → (x : A) × (slice_get xs n ≡ Some x)
there [] n lt = absurd (omega (arith, lt))
there (x ∷ xs) zero lt = (x, refl)
there (x ∷ xs) (suc n) lt = there xs n (omega (arith, lt))

pub lines_are_said : LinesAreSaid
lines_are_said h lines told n line e =
    let within : n < length lines = get_within lines n line e in
    let found = there h.records n (omega (arith, within, told.many)) in
    let was : IsToldAt form.Line h.seen.given h.seen.run h.records lines n found.0 = told.each n found.0 found.1 in
    record {
      it = found.0;
      before = was.before;
      there = found.1;
      shows = was.shows;
      is = inner line _ (sym e ∙ was.told);
    }

-- ---- numbers and texts

number_by : (n : ℕ) (b : Bool) → n < 2 ^ 64 → number_in (cond b (whole_data n) (string (decimal n))) ≡ Some n
number_by n true lt = refl
number_by n false lt = numbers_read_back 18_446_744_073_709_551_615 n (omega (arith, lt)) (omega arith)

number_back : (n : ℕ) → n < 2 ^ 64 → number_in (number_data n) ≡ Some n
number_back n lt = number_by n (nat_le n most_whole) lt

bytes_back : (bytes : List ℕ) → bytes_in (items_of (map whole_data bytes)) ≡ Some bytes
bytes_back [] = refl
bytes_back (b ∷ bytes) = ap (λ (o : Option (List ℕ)). o >>= λ bs. Some (b ∷ bs)) (bytes_back bytes)

text_by : (bytes : List ℕ) (b : Bool) → text_in (cond b (string bytes) (bytes_data bytes)) ≡ Some bytes
text_by bytes true = refl
text_by bytes false = bytes_back bytes

text_back : (bytes : List ℕ) → text_in (text_data bytes) ≡ Some bytes
text_back bytes = text_by bytes (is_utf8 bytes)

two_texts : (o : Option (List ℕ)) (p : Option (List (List ℕ))) (text : List ℕ) (texts : List (List ℕ)) → o ≡ Some text → p ≡ Some texts → (o >>= λ t. p >>= λ ts. Some (t ∷ ts)) ≡ Some (text ∷ texts)
two_texts o p text texts e f = rw (e, f) refl

texts_back : (texts : List (List ℕ)) → all_texts (items_of (map text_data texts)) ≡ Some texts
texts_back [] = refl
texts_back (text ∷ texts) = two_texts (text_in (text_data text)) (all_texts (items_of (map text_data texts))) text texts (text_back text) (texts_back texts)

-- ---- records

begin_from : (a b : Option ℕ) (c : Option (List (List ℕ))) (d : Option (List ℕ)) (run moment : ℕ) (books : List (List ℕ)) (bind : List ℕ) → a ≡ Some run → b ≡ Some moment → c ≡ Some books → d ≡ Some bind
    → (a >>= λ run. b >>= λ moment. c >>= λ books. d >>= λ bind. Some (entry.Begin run moment books bind)) ≡ Some (entry.Begin run moment books bind)
begin_from a b c d run moment books bind e f g h = rw (e, f, g, h) refl

moment_from : {A : Type 0} (o : Option ℕ) (moment : ℕ) (f : ℕ → Option A) (x : A) → o ≡ Some moment → f moment ≡ Some x → (o >>= f) ≡ Some x
moment_from o moment f x e g = rw e g

text_from : {A : Type 0} (o : Option (List ℕ)) (text : List ℕ) (f : List ℕ → Option A) (x : A) → o ≡ Some text → f text ≡ Some x → (o >>= f) ≡ Some x
text_from o text f x e g = rw e g

-- whoever sent or asked
reply_back : (run : ℕ) (before : Shown) (n : ℕ) (sender : Option Sender) (issue moment status rule : ℕ) (text : List ℕ) → RepliesInRange issue moment status rule text
    → record_in (object (members_of (reply_members run before n sender issue moment status rule text))) ≡ Some (entry.Reply issue moment status rule text)
reply_back run before n None issue moment status rule text h =
    moment_from (number_in (number_data moment)) moment (λ m. text_in (text_data text) >>= λ t. Some (entry.Reply issue m status rule t)) (entry.Reply issue moment status rule text) (number_back moment h.moment_fits)
    (text_from (text_in (text_data text)) text (λ t. Some (entry.Reply issue moment status rule t)) (entry.Reply issue moment status rule text) (text_back text) refl)
reply_back run before n (Some sender) issue moment status rule text h =
    moment_from (number_in (number_data moment)) moment (λ m. text_in (text_data text) >>= λ t. Some (entry.Reply issue m status rule t)) (entry.Reply issue moment status rule text) (number_back moment h.moment_fits)
    (text_from (text_in (text_data text)) text (λ t. Some (entry.Reply issue moment status rule t)) (entry.Reply issue moment status rule text) (text_back text) refl)

expire_back : (run : ℕ) (before : Shown) (n : ℕ) (sender : Option Sender) (issue moment : ℕ) → moment < 2 ^ 64
    → record_in (object (members_of (expire_members run before n sender issue moment))) ≡ Some (entry.Expire issue moment)
expire_back run before n None issue moment lt =
    moment_from (number_in (number_data moment)) moment (λ m. Some (entry.Expire issue m)) (entry.Expire issue moment) (number_back moment lt) refl
expire_back run before n (Some sender) issue moment lt =
    moment_from (number_in (number_data moment)) moment (λ m. Some (entry.Expire issue m)) (entry.Expire issue moment) (number_back moment lt) refl

told_back : (run : ℕ) (before : Shown) (n : ℕ) (sender : Option Sender) (issue moment status : ℕ) (text : List ℕ) → TellsInRange issue moment status text
    → record_in (object (members_of (told_members run before n sender issue moment status text))) ≡ Some (entry.Told issue moment status text)
told_back run before n None issue moment status text h =
    moment_from (number_in (number_data moment)) moment (λ m. text_in (text_data text) >>= λ t. Some (entry.Told issue m status t)) (entry.Told issue moment status text) (number_back moment h.moment_fits)
    (text_from (text_in (text_data text)) text (λ t. Some (entry.Told issue moment status t)) (entry.Told issue moment status text) (text_back text) refl)
told_back run before n (Some sender) issue moment status text h =
    moment_from (number_in (number_data moment)) moment (λ m. text_in (text_data text) >>= λ t. Some (entry.Told issue m status t)) (entry.Told issue moment status text) (number_back moment h.moment_fits)
    (text_from (text_in (text_data text)) text (λ t. Some (entry.Told issue moment status t)) (entry.Told issue moment status text) (text_back text) refl)

pub objects_read_back : ObjectsReadBack
objects_read_back run before sent n (entry.Begin held moment books bind) h =
    begin_from (number_in (number_data held)) (number_in (number_data moment)) (all_texts (items_of (map text_data books))) (text_in (text_data bind)) held moment books bind
    (number_back held h.run_fits) (number_back moment h.moment_fits) (texts_back books) (text_back bind)
objects_read_back run before sent n (entry.Walk task moment) h =
    moment_from (number_in (number_data moment)) moment (λ m. Some (entry.Walk task m)) (entry.Walk task moment) (number_back moment h.1) refl
objects_read_back run before sent n (entry.Send task issue agent moment bytes) h =
    moment_from (number_in (number_data moment)) moment (λ m. text_in (text_data bytes) >>= λ t. Some (entry.Send task issue agent m t)) (entry.Send task issue agent moment bytes) (number_back moment h.moment_fits)
    (text_from (text_in (text_data bytes)) bytes (λ t. Some (entry.Send task issue agent moment t)) (entry.Send task issue agent moment bytes) (text_back bytes) refl)
objects_read_back run before sent n (entry.Reply issue moment status rule text) h = reply_back run before n (slice_get sent issue) issue moment status rule text h
objects_read_back run before sent n (entry.Expire issue moment) h = expire_back run before n (slice_get sent issue) issue moment h.1
objects_read_back run before sent n (entry.Upgrade version moment) h =
    moment_from (number_in (number_data moment)) moment (λ m. Some (entry.Upgrade version m)) (entry.Upgrade version moment) (number_back moment h.1) refl
objects_read_back run before sent n (entry.Ask task issue moment bytes) h =
    moment_from (number_in (number_data moment)) moment (λ m. text_in (text_data bytes) >>= λ t. Some (entry.Ask task issue m t)) (entry.Ask task issue moment bytes) (number_back moment h.moment_fits)
    (text_from (text_in (text_data bytes)) bytes (λ t. Some (entry.Ask task issue moment t)) (entry.Ask task issue moment bytes) (text_back bytes) refl)
objects_read_back run before sent n (entry.Told issue moment status text) h = told_back run before n (slice_get sent issue) issue moment status text h
