use Rattle.cacao_json.proofs.Profiles.{formed_if_whole, put_keeps_profile, removal_keeps_profile, push_keeps_profile, members_have_profile}
use Rattle.cacao_json.proofs.laws.profile_law.Goals as goal

pub returns-clause-whole : goal.returns-clause-whole
returns-clause-whole c = formed_if_whole

pub returns-clause-put : goal.returns-clause-put
returns-clause-put c = put_keeps_profile

pub returns-clause-removal : goal.returns-clause-removal
returns-clause-removal c = removal_keeps_profile

pub returns-clause-push : goal.returns-clause-push
returns-clause-push c = push_keeps_profile

pub returns-clause-members : goal.returns-clause-members
returns-clause-members c = members_have_profile
