-- The members of who sent or asked, beside the others of an object.
use Rattle.std.proofs.Common.{◌≡◌, ℕ, List, [], ◌∷◌, codes, Option, Some, None, refl, subst}
use Rattle.serde_json.specs.Data.{string}
use Rattle.cacao_json.specs.Tree.{members_of}
use Rattle.oc2_msg_targets.specs.Parts.{whole_data}
use Rattle.flow_core_rules.specs.State.{Shown}
use Rattle.cacao_view_log.specs.Objects.{expire_members, number_data, reply_members, text_data, told_members}
use Rattle.cacao_view_log.specs.Telling.{IsStepBy, agent_put, sender_put}
use Rattle.cacao_view_log.specs.declared.sender.Sender.{Sender}

pub reply_put : (run : ℕ) (before : Shown) (n : ℕ) (sender : Option Sender) (issue moment status rule : ℕ) (text step : List ℕ) → IsStepBy before sender step
    → sender_put sender step (agent_put sender (members_of (reply_members run before n None issue moment status rule text))) ≡ members_of (reply_members run before n sender issue moment status rule text)
reply_put run before n None issue moment status rule text step e = refl
reply_put run before n (Some s) issue moment status rule text step e =
    subst (λ (k : List ℕ). sender_put (Some s) step (agent_put (Some s) (members_of (reply_members run before n None issue moment status rule text)))
    ≡ members_of ((codes "agent", whole_data s.agent) ∷ (codes "issue", whole_data issue) ∷ (codes "kind", string (codes "reply")) ∷ (codes "moment", number_data moment) ∷ (codes "number", whole_data n)
    ∷ (codes "rule", whole_data rule) ∷ (codes "run", number_data run) ∷ (codes "status", whole_data status) ∷ (codes "step", string k) ∷ (codes "task", whole_data s.task) ∷ (codes "text", text_data text) ∷ []))
    e refl

pub expire_put : (run : ℕ) (before : Shown) (n : ℕ) (sender : Option Sender) (issue moment : ℕ) (step : List ℕ) → IsStepBy before sender step
    → sender_put sender step (agent_put sender (members_of (expire_members run before n None issue moment))) ≡ members_of (expire_members run before n sender issue moment)
expire_put run before n None issue moment step e = refl
expire_put run before n (Some s) issue moment step e =
    subst (λ (k : List ℕ). sender_put (Some s) step (agent_put (Some s) (members_of (expire_members run before n None issue moment)))
    ≡ members_of ((codes "agent", whole_data s.agent) ∷ (codes "issue", whole_data issue) ∷ (codes "kind", string (codes "expire")) ∷ (codes "moment", number_data moment) ∷ (codes "number", whole_data n)
    ∷ (codes "run", number_data run) ∷ (codes "step", string k) ∷ (codes "task", whole_data s.task) ∷ []))
    e refl

pub told_put : (run : ℕ) (before : Shown) (n : ℕ) (sender : Option Sender) (issue moment status : ℕ) (answer step : List ℕ) → IsStepBy before sender step
    → sender_put sender step (members_of (told_members run before n None issue moment status answer)) ≡ members_of (told_members run before n sender issue moment status answer)
told_put run before n None issue moment status answer step e = refl
told_put run before n (Some s) issue moment status answer step e =
    subst (λ (k : List ℕ). sender_put (Some s) step (members_of (told_members run before n None issue moment status answer))
    ≡ members_of ((codes "answer", text_data answer) ∷ (codes "issue", whole_data issue) ∷ (codes "kind", string (codes "told")) ∷ (codes "moment", number_data moment) ∷ (codes "number", whole_data n)
    ∷ (codes "run", number_data run) ∷ (codes "status", whole_data status) ∷ (codes "step", string k) ∷ (codes "task", whole_data s.task) ∷ []))
    e refl
