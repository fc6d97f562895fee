-- The statuses of `decide`, and their causes.
use Rattle.std.proofs.Common.{◌≡◌, inl, inr, ◌∙◌, refl, sym, ap, subst, ℕ, List, [], ◌∷◌, Option, Some, Result, Ok, Err}
use Rattle.std.specs.Prelude.{IsSomeAnd}
use Rattle.cacao_site.specs.View.{SiteView}
use Rattle.oc2_nets.specs.declared.packets.Packet.{Packet}
use Rattle.slpf_actuator.proofs.Damages.{no_acts_where_damaged}
use Rattle.cacao_cli_filters.specs.PacketFiles.{packets_of}
use Rattle.cacao_cli_words.specs.Words.{Text}
use Rattle.cacao_cli_ends.specs.Ends.{no_such_file, past, not_readable}
use Rattle.cacao_cli_ends.specs.Files.{File, Files, NamedText, packet_file, reading}
use Rattle.cacao_cli_ends.specs.Work.{Work, ends, opens_filter, at_decisions, or_end, packets_in, packets_or_end}
use Rattle.cacao_cli_looks.specs.Openings.{HoldsFilter, IsDamagedFilter}
use Rattle.cacao_cli_ends.specs.FileCauses.{IsWithin, IsMissing, IsTooLong, HasPackets, HasBadLine}
use Rattle.cacao_cli_ends.specs.declared.limit.Limit.{Limit}
use Rattle.cacao_cli_ends.specs.declared.reason.Reason.TheVariants.{Line}
use Rattle.cacao_cli_status_laws.proofs.CauseLemmas.{ReadingCase, all_within, one_missing, one_long, reading_case, some-both, missing-within, long-within}
use Rattle.cacao_cli_ends.proofs.ReadLemmas.{Read}

-- a file holds acts of a filter, or it is damaged
pub holds-or-damaged : (agent : ℕ) (site : SiteView) → HoldsFilter agent site → IsDamagedFilter agent site → ⊥
holds-or-damaged agent site h d = no_acts_where_damaged (site.disk.reads agent) d.0 h.0 d.1 h.2 h.1

abbrev pub packet_work : Files → ℕ → Text → Work
packet_work files agent packets = or_end (reading files (packet_file packets ∷ [])) (λ texts. or_end (packets_in texts) (λ found. opens_filter agent (at_decisions found)))

pub data PacketWork (files : Files) (agent : ℕ) (packets : Text) : Type 0 where
  is_missing : (name : Text) → IsMissing files (packet_file packets ∷ []) → packet_work files agent packets ≡ ends [] (no_such_file name) → PacketWork files agent packets
  is_too_long : (limit : Limit) → IsTooLong files (packet_file packets ∷ []) → packet_work files agent packets ≡ ends [] (past limit) → PacketWork files agent packets
  is_bad : (name : Text) (number : ℕ) → IsWithin files (packet_file packets) × HasBadLine files (packet_file packets) → packet_work files agent packets ≡ ends [] (not_readable name (Line number)) → PacketWork files agent packets
  is_read : (found : List (ℕ × Packet)) → HasPackets files (packet_file packets) found → packet_work files agent packets ≡ opens_filter agent (at_decisions found) → PacketWork files agent packets

pub packet_work_case : (files : Files) (agent : ℕ) (packets : Text) → PacketWork files agent packets
packet_work_case files agent packets = go (reading_case files (packet_file packets ∷ []))
  where
    at : (r : Read) → reading files (packet_file packets ∷ []) ≡ r → packet_work files agent packets ≡ or_end r (λ texts. or_end (packets_in texts) (λ found. opens_filter agent (at_decisions found)))
    at r e = ap (λ (r : Read). or_end r (λ texts. or_end (packets_in texts) (λ found. opens_filter agent (at_decisions found)))) e

    by : (text : NamedText) → IsWithin files (packet_file packets) → files packets ≡ Some text.bytes → reading files (packet_file packets ∷ []) ≡ Ok (text ∷ []) → (r : Result (List (ℕ × Packet)) ℕ) → r ≡ packets_of text.bytes → PacketWork files agent packets
    by text within is e (Ok found) f = is_read found (within, subst (λ (o : Option Text). IsSomeAnd o (λ bytes. packets_of bytes ≡ Ok found)) (sym is) (sym f))
        (at (Ok (text ∷ [])) e ∙ ap (λ (r : Result (List (ℕ × Packet)) ℕ). or_end (packets_or_end text.name r) (λ found. opens_filter agent (at_decisions found))) (sym f))
    by text within is e (Err number) f = is_bad text.name number (within, subst (λ (o : Option Text). IsSomeAnd o (λ bytes. (n : ℕ) × (packets_of bytes ≡ Err n))) (sym is) (number, sym f))
        (at (Ok (text ∷ [])) e ∙ ap (λ (r : Result (List (ℕ × Packet)) ℕ). or_end (packets_or_end text.name r) (λ found. opens_filter agent (at_decisions found))) (sym f))

    go : ReadingCase files (packet_file packets ∷ []) → PacketWork files agent packets
    go (one_missing name m e) = is_missing name m (at (Err (no_such_file name)) e)
    go (one_long limit m e) = is_too_long limit m (at (Err (past limit)) e)
    go (all_within [] t e) = absurd t
    go (all_within (text ∷ []) t e) = by text t.0.0 t.0.1 e (packets_of text.bytes) refl
    go (all_within (text ∷ other ∷ texts) t e) = absurd t.1

-- ---- the causes exclude one another

module _ (files : Files) (packets : Text) where
  abbrev file : File
  file = packet_file packets

  pub missing-apart : IsMissing files (file ∷ []) → IsWithin files file → ⊥
  missing-apart (inl none) within = missing-within files file none within
  missing-apart (inr h) within = h.1

  pub long-apart : IsTooLong files (file ∷ []) → IsWithin files file → ⊥
  long-apart (inl long) within = long-within files file long within
  long-apart (inr h) within = h.1

  pub bad-apart : HasBadLine files file → (found : List (ℕ × Packet)) → HasPackets files file found → ⊥
  bad-apart bad found has = some-both (files packets) (λ bytes. (n : ℕ) × (packets_of bytes ≡ Err n)) (λ bytes. packets_of bytes ≡ Ok found) (λ bytes p q. let e : Err p.0 ≡ Ok found = sym p.1 ∙ q in cc) bad has.1
