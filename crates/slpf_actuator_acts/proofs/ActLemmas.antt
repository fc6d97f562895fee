-- Acts, their table and their entries, one act more.
use Rattle.std.proofs.Common.{◌≡◌, ℕ, suc, ◌-◌, ◌<◌, ◌≤◌, List, [], ◌∷◌, ◌++◌, map, length, fold, take, Contains, Some, slice_get, sym, subst, ap, ◌∙◌, arith, length-append}
use Rattle.std.specs.List.{AllByRecursion}
use Rattle.std.proofs.lemmas.List.{map-append}
use Rattle.std.proofs.lemmas.List.Sums.{fold-append}
use Rattle.std.proofs.lemmas.Option.{same_Some, slice_get-get_or}
use Rattle.oc2_msg.specs.Reasons.{reason_text}
use Rattle.run_records.specs.declared.act.Act.{Act}
use Rattle.run_records.specs.Layout.{act_layout}
use Rattle.run_records.specs.Ranges.{ActInRange}
use Rattle.slpf_rules.specs.declared.rules.Rule.{Rule}
use Rattle.slpf_rules.specs.Laws.{RepliesAreFinal}
use Rattle.slpf_rules.specs.Replies.{reply}
use Rattle.slpf_rules_acts.proofs.Acts.{acts_more}
use Rattle.slpf_rules_acts.specs.Acts.{AreActs, reply_text, table_of}
use Rattle.slpf_actuator_acts.specs.ActLists.{IsFinalReply, IsHistory, MayFollow, entries_of, moment_of_last, last_of}

pub acts_push : (acts : List Act) (act : Act) → AreActs acts → MayFollow acts act → AreActs (acts ++ act ∷ [])
acts_push acts act were follows = acts_more acts act were follows.is_new follows.replied

ranges_push : (acts : List Act) (act : Act) → AllByRecursion ActInRange acts → ActInRange act → AllByRecursion ActInRange (acts ++ act ∷ [])
ranges_push [] act were is = (is, tt)
ranges_push (a ∷ acts) act were is = (were.0, ranges_push acts act were.1 is)

pub history_push : (acts : List Act) (act : Act) → IsHistory acts → MayFollow acts act → ActInRange act → length acts < 4_294_967_295 → IsHistory (acts ++ act ∷ [])
history_push acts act was follows fits few = record {
  are = acts_push acts act was.are follows;
  ranges = ranges_push acts act was.ranges fits;
  few = omega (arith, length-append acts (act ∷ []), few);
}

pub table_push : (acts : List Act) (act : Act) → table_of (acts ++ act ∷ []) ≡ (reply (table_of acts) act.command act.moment).1
table_push acts act =
    let f : List Rule → List ℕ × ℕ → List Rule = λ rules asked. (reply rules asked.0 asked.1).1 in
    let h : Act → List ℕ × ℕ = λ (a : Act). (a.command, a.moment) in
    ap (fold f []) (map-append h acts (act ∷ [])) ∙ fold-append f [] (map h acts) (map h (act ∷ []))

pub entries_push : (acts : List Act) (act : Act) → entries_of (acts ++ act ∷ []) ≡ entries_of acts ++ act_layout act ∷ []
entries_push acts act = map-append act_layout acts (act ∷ [])

-- ---- moments

-- the moment of the last act, by its place
pub last_at : (moment : ℕ) (acts : List Act) (act : Act) → slice_get acts (length acts - 1) ≡ Some act → last_of moment acts ≡ act.moment
last_at moment [] act is = absurd (cc)
last_at moment (a ∷ []) act is =
    let first : length (a ∷ []) - 1 ≡ 0 = omega arith in
    ap (λ (x : Act). x.moment) (same_Some a act (subst (λ (n : ℕ). slice_get (a ∷ []) n ≡ Some act) first is))
last_at moment (a ∷ b ∷ acts) act is =
    let later : length (a ∷ b ∷ acts) - 1 ≡ suc (length (b ∷ acts) - 1) = omega arith in
    last_at a.moment (b ∷ acts) act (subst (λ (n : ℕ). slice_get (a ∷ b ∷ acts) n ≡ Some act) later is)

last_fits : (moment : ℕ) (acts : List Act) → moment ≤ 9_000_000_000_000_000 → AllByRecursion ActInRange acts → last_of moment acts ≤ 9_000_000_000_000_000
last_fits moment [] fits ranges = fits
last_fits moment (act ∷ acts) fits ranges = last_fits act.moment acts ranges.0.moment_fits ranges.1

pub moment_of_last_fits : (acts : List Act) → IsHistory acts → moment_of_last acts ≤ 9_000_000_000_000_000
moment_of_last_fits acts is = last_fits 0 acts (omega arith) is.ranges

-- ---- replies

-- the text of each response of a table reads as it should
pub final_reply : RepliesAreFinal → (rules : List Rule) (command : List ℕ) (moment : ℕ) → IsFinalReply (reply_text rules command moment)
final_reply law rules command moment =
    let response = (reply rules command moment).0 in
    let is = law rules command moment in
    record {
      read = record { status = response.status; rule = response.rule; text = reason_text response.text };
      reads = is.reads_back;
      final = is.final;
      short = is.short;
    }

-- and so does that of each act
pub acts_final : RepliesAreFinal → (acts : List Act) (act : Act) → AreActs acts → Contains acts act → IsFinalReply act.reply
acts_final law acts act are (k, within, is) =
    let there : slice_get acts k ≡ Some act = slice_get-get_or acts k act within ∙ ap (λ (a : Act). Some a) is in
    subst IsFinalReply (sym (are.replied k act there)) (final_reply law (table_of (take k acts)) act.command act.moment)
