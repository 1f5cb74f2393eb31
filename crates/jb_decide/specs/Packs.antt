-- Whether a user may have an area packed, and whether it was.
use Rattle.std.specs.Prelude.{◌≡◌, ℕ, ◌≤◌, Bool, List, None}
use Rattle.jb_base.specs.Access.{first_refusal}
use Rattle.jb_base.specs.declared.area.Action.TheVariants.{Tend as Tending}
use Rattle.jb_base.specs.declared.area.AreaRules.{AreaRules}
use Rattle.jb_limits.specs.declared.limits.TheConstants.{TEXTS_CEILING}
use Rattle.jb_base.specs.declared.user.User.{User}
use Rattle.jb_model.specs.Pack.{pack_step}
use Rattle.jb_model.specs.Standing.{is_refusal}
use Rattle.jb_state.specs.State.{state_of}
use Rattle.jb_state.specs.declared.loaded.Loaded.{Loaded}
use Rattle.jb_model.specs.declared.reply.Reply.{Reply}
use Rattle.jb_model.specs.declared.reply.Reply.TheVariants.{Packed}
use Rattle.jb_state.specs.Packed.{texts_size}

-- a pack of the area, with these texts, would be refused
abbrev pub is_pack_refused : AreaRules → List ℕ → Loaded → User → Bool
is_pack_refused rules texts loaded user = is_refusal (pack_step rules (state_of texts loaded) user).reply

-- the user may have it packed, and its live texts fit
pub record MayPack (rules : AreaRules) (loaded : Loaded) (user : User) : Type 0 where
  pub allowed : first_refusal user rules Tending None ≡ None
  pub fits : texts_size loaded.slots ≤ TEXTS_CEILING

-- the reply says that the area was packed
pub record IsPacked (reply : Reply) : Type 0 where
  pub base : ℕ
  pub live : ℕ
  pub dropped : ℕ
  pub is : reply ≡ Packed base live dropped
