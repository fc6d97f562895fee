-- A command of another run is put, as by another engine over the same link: agreement is kept.
use Rattle.std.proofs.Common.{◌≡◌, ◌≢◌, inl, inr, ℕ, ◌≤◌, List, [], ◌∷◌, ◌++◌, sym, ◌∙◌, subst, ap, false, arith}
use Rattle.std.specs.Prelude.{drop, Contains, Some, None}
use Rattle.std.proofs.lemmas.List.Elements.{Contains-push_cases}
use Rattle.std.proofs.lemmas.Bool.{both_ways}
use Rattle.cacao_site.specs.View.{SiteView}
use Rattle.cacao_site.specs.declared.parcel.Parcel.{Parcel}
use Rattle.cacao_site.specs.DiskCalls.{IsLeft}
use Rattle.run_records.specs.declared.record.Record.{Record}
use Rattle.flow_laws.specs.Journals.{run_of}
use Rattle.flow_laws.specs.Images.{puts_to, IsRecords}
use Rattle.flow_laws.specs.Agree.{Agree, CommandsAreSent}
use Rattle.flow_laws.specs.Good.{IsGood, IsChoice}
use Rattle.flow_laws.specs.Held.{Speech, IsHeldAs, IsOwnPut}
use Rattle.flow_laws.specs.Beats.{PutsForeign, ForeignIsPut, Among}
use Rattle.flow_laws.proofs.Basics.{in_drop_more, same_entry}
use Rattle.flow_laws.proofs.Shrink.{past_open, same_lines, all_among}
use Rattle.flow_laws.proofs.Puts.{replies_and_command}

-- the commands of a run are sent, with a command more of another run
commands_and_foreign : (records : List Record) (puts : List (ℕ × Parcel)) (late : ℕ) (parcel : Parcel) → run_of records ≢ Some parcel.run
    → CommandsAreSent records puts → CommandsAreSent records (puts ++ (late, parcel) ∷ [])
commands_and_foreign records puts late parcel other was at it has command of = elim (Contains-push_cases puts (late, parcel) (at, it) has) [
  | inl old ↦ was at it old command of
  | inr new ↦ absurd (other (of ∙ ap Some (sym (ap (λ (p : Parcel). p.run) (same_entry new)))))
]

module _ (speech : Speech) (first : ℕ) (earlier : SiteView) (early : ℕ) (later : SiteView) (late : ℕ) (parcel : Parcel)
    (puts : PutsForeign speech earlier early later late parcel) where
  among : (file : ℕ) → file ≤ 16 → Among file earlier early later late
  among = all_among speech (Some parcel) None earlier early later late puts.only

  other_in : (image : List ℕ) (records : List Record) → IsLeft earlier.disk 0 early image → IsRecords image records → run_of records ≢ Some parcel.run
  other_in image records left are = puts.others image records left are

  own_still : (at : ℕ) (it : Parcel) → IsOwnPut speech later first late at it → IsOwnPut speech earlier first early at it
  own_still at it own = elim (in_drop_more first (puts_to earlier early) (late, parcel) (at, it) (subst (λ (l : List (ℕ × Parcel)). Contains (drop first l) (at, it)) puts.only.puts own.has)) [
    | inl old ↦ record { has = old; command = own.command; own = own.own }
    | inr new ↦ absurd (both_ways (speech.is_own it.run) (subst (λ (p : Parcel). speech.is_own p.run ≡ false) (same_entry new) puts.foreign) own.own)
  ]

  good_foreign : IsGood earlier early → IsGood later late
  good_foreign good = record {
    each = λ choice each.
        let left : IsChoice earlier early choice = λ file le. among file le (choice file) (each file le) in
        let g = good.each choice left in
        let agree = g.agree in
        let more : Agree g.records g.acts (puts_to earlier early ++ (late, parcel) ∷ []) = record {
          is_run = agree.is_run;
          acts_once = agree.acts_once;
          replies = replies_and_command g.acts (puts_to earlier early) late parcel puts.command agree.replies;
          commands = commands_and_foreign g.records (puts_to earlier early) late parcel (other_in (choice 0) g.records (left 0 (omega arith)) g.are_records) agree.commands;
          acts_sent = agree.acts_sent;
          answers = agree.answers;
        } in
        record {
          records = g.records;
          acts = g.acts;
          are_records = g.are_records;
          are_acts = g.are_acts;
          agree = subst (λ (p : List (ℕ × Parcel)). Agree g.records g.acts p) (sym puts.only.puts) more;
        };
  }

  held_foreign : IsHeldAs speech earlier first early → IsHeldAs speech later first late
  held_foreign held = record {
    lines = λ image records left stands bytes said line. held.lines image records (among 0 (omega arith) image left) stands bytes
        (same_lines speech None (Some parcel) earlier early later late puts.only image records left stands bytes line said) line;
    sent = λ image records left stands. subst (λ (p : List (ℕ × Parcel)). CommandsAreSent records p) (sym puts.only.puts)
        (commands_and_foreign records (puts_to earlier early) late parcel (other_in image records (among 0 (omega arith) image left) stands)
        (held.sent image records (among 0 (omega arith) image left) stands));
    none_while_empty = λ image left empty at it own. held.none_while_empty image (among 0 (omega arith) image left) empty at it (own_still at it own);
    was_open = λ at it own. past_open speech first earlier early later puts.only.past held at it (own_still at it own);
  }

pub foreign_is_put : ForeignIsPut
foreign_is_put speech first earlier early later late parcel puts good held = (
  good_foreign speech first earlier early later late parcel puts good,
  held_foreign speech first earlier early later late parcel puts held,
)
