-- Output that is held for a while, and the end of what is left of a run.
use Rattle.std.proofs.Common.{◌≡◌, ℕ, Option, List, [], ◌++◌, sym, ◌∙◌, ap, refl, append_assoc}
use Rattle.bs_outside.specs.Told.{added, Owes, AddsPrefix}
use Rattle.bs_outside.proofs.Owing.{owes_rest, owes_prefix, owes_none, owes_then, owes_all}
use Rattle.bootsnap_top.specs.SmallRun.{Answer, behind}

-- all that was held is sent, and nothing more is owed
pub sent_all : {before mid now : Option (List ℕ)} {all : List ℕ} (held more : List ℕ) → Owes before mid all (held ++ more) → more ≡ [] → now ≡ added mid held → now ≡ added before all
sent_all held more o e t = owes_none (owes_rest held [] o (ap (λ l. held ++ l) e) t)

-- some of what was held is sent
pub sent_some : {before mid now : Option (List ℕ)} {all : List ℕ} (held more : List ℕ) → Owes before mid all (held ++ more) → AddsPrefix mid now held → AddsPrefix before now all
sent_some held more o f = owes_prefix held more o refl f

-- a piece more is held
pub held_more : {before mid now : Option (List ℕ)} {all next : List ℕ} (held output piece more : List ℕ) → Owes before mid all (held ++ output) → output ≡ piece ++ more → Owes mid now (held ++ piece) next → Owes before now all (next ++ more)
held_more {before} {mid} {now} {all} held output piece more o e p =
    let whole : Owes before mid all ((held ++ piece) ++ more) = rw (append_assoc held piece more, ← e) o in
    owes_then more whole p

-- some of what was held, and of a piece more, is sent
pub held_some : {before mid now : Option (List ℕ)} {all : List ℕ} (held output piece more : List ℕ) → Owes before mid all (held ++ output) → output ≡ piece ++ more → AddsPrefix mid now (held ++ piece) → AddsPrefix before now all
held_some held output piece more o e f = owes_prefix (held ++ piece) more o (ap (λ l. held ++ l) e ∙ sym (append_assoc held piece more)) f

-- at first all is owed and nothing is held
pub all_owed : (told : Option (List ℕ)) (held all : List ℕ) → held ≡ [] → Owes told told all (held ++ all)
all_owed told held all e = rw e (owes_all told all)

-- the error text and the ending of what is left are those of all
pub record EndsAlike (left all : Answer) : Type 0 where
  pub errors : left.errors ≡ all.errors
  pub ending_is : left.ending ≡ all.ending

pub ends_alike_then : {next now all : Answer} (piece : List ℕ) → now ≡ behind piece next → EndsAlike now all → EndsAlike next all
ends_alike_then piece e h = record { errors = sym (ap (λ a. a.errors) e) ∙ h.errors; ending_is = sym (ap (λ a. a.ending) e) ∙ h.ending_is }
