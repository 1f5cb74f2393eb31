-- Areas that are opened and shared, one after another.
use Rattle.std.specs.declared.alloc.Global.{Global}
use Rattle.std.proofs.Common.{Vec, vec_capacity, ◌≡◌, ℕ, ◌+◌, ◌<◌, ◌≤◌, List, [], ◌∷◌, ◌++◌, length, take, All, refl, sym, ap, subst, ◌∙◌, arith}
use Rattle.std.specs.Prelude.{slice_index_or}
use Rattle.std.proofs.lemmas.List.{length-map, length-take-le, length_push, map_push, take_more}
use Rattle.jb_conf.specs.declared.board.BoardArea.{BoardArea}
use Rattle.jb_disk.specs.Device.{Device}
use Rattle.jb_host.specs.Desk.{Desk, GivesDisk}
use Rattle.jb_shared.specs.Areas.{IsOf, passes_of}
use Rattle.jb_shared.specs.Passes.{Known, PassView, first_known}
use Rattle.jb_shared.specs.declared.opening.Opening.{Opening}
use Rattle.jb_shared.specs.declared.shared.SharedArea.{SharedArea}
use Rattle.jb_run.specs.All.{AreLive, AreShared, OpenAs, OpensAll}
use Rattle.jb_run.specs.Desks.{BasePlace, HandsOut, place_of, places_of}
use Rattle.jb_run.specs.Lives.{HasLive, GoesOnFrom}
use Rattle.jb_run.specs.Rows.{IsDealt, lists_of}
use Rattle.jb_run.specs.declared.opening.SharedAreas.{SharedAreas}
use Rattle.jb_run.proofs.DeskLemmas.{hands_out_more, hands_out_none}
use Rattle.jb_run.proofs.EachLemmas.{EachPair, each_last, each_pair_last}
use Rattle.jb_run.proofs.RowLemmas.{length-lists_of}
use Rattle.jb_run.proofs.WholeLemmas.{IsBehind, IsSharedBy, nobody, whole_more}

-- no area is open
open_none : (nodes : List (List PassView)) → OpenAs [] [] [] nodes
open_none nodes = record {
  count = refl;
  opens = λ k area device opening within. absurd (omega arith);
  fresh = λ n k pass opening here within. absurd (omega arith);
}

-- one area more is open
open_more : (areas : List BoardArea) (befores : List Device) (openings : List Opening) (fewer : List (List PassView)) (area : BoardArea) (before : Device) (opening : Opening)
    (row : List PassView) (more : List (List PassView)) → length befores ≡ length areas → ((n : ℕ) → n < length fewer → length (slice_index_or fewer n []) ≡ length areas)
    → GoesOnFrom area.rules before opening → ((n : ℕ) → n < length fewer → (slice_index_or row n nobody).known ≡ first_known (n + 1) opening) → IsDealt fewer row more
    → OpenAs areas befores openings fewer → OpenAs (areas ++ area ∷ []) (befores ++ before ∷ []) (openings ++ opening ∷ []) more
open_more areas befores openings fewer area before opening row more same_befores same_passes opens fresh dealt open_as = record {
  count = length_push openings opening ∙ ap (λ (n : ℕ). n + 1) open_as.count ∙ sym (length_push areas area);
  opens = each_last (λ (a : BoardArea) (d : Device) (o : Opening). GoesOnFrom a.rules d o) areas area befores before openings opening same_befores open_as.count open_as.opens opens;
  fresh = λ n k p o here within.
      let low : n < length fewer = omega (arith, here, dealt.lists) in
      let passes : List PassView = slice_index_or fewer n [] in
      let pass : PassView = slice_index_or row n nobody in
      let still : EachPair (λ (p : PassView) (o : Opening). p.known ≡ first_known (n + 1) o) passes openings
      = λ j q r inside. open_as.fresh n j q r low (omega (arith, inside, same_passes n low)) in
      subst (λ (l : List PassView). (slice_index_or l k p).known ≡ first_known (n + 1) (slice_index_or (openings ++ opening ∷ []) k o)) (sym (dealt.each n nobody low))
      (each_pair_last (λ (p : PassView) (o : Opening). p.known ≡ first_known (n + 1) o) passes pass openings opening (open_as.count ∙ sym (same_passes n low)) still (fresh n low) k p o
      (omega (arith, within, length_push areas area, length_push passes pass, same_passes n low)));
}

-- and counted
live_more : (openings : List Opening) (opening : Opening) (counts : List ℕ) (live : ℕ) → HasLive live opening.loaded → AreLive openings counts
    → AreLive (openings ++ opening ∷ []) (counts ++ live ∷ [])
live_more openings opening counts live has are = record {
  count = length_push counts live ∙ ap (λ (n : ℕ). n + 1) are.count ∙ sym (length_push openings opening);
  each = each_pair_last (λ (o : Opening) (n : ℕ). HasLive n o.loaded) openings opening counts live are.count are.each has;
}

module _ {D : Type 0} where
  -- its count stands behind the others
  pub record CountsOne (opening : Opening) (fewer more : SharedAreas D) : Type 0 where
    pub live : ℕ
    pub behind : more.live.items ≡ fewer.live.items ++ live ∷ []
    pub has : HasLive live opening.loaded

  -- no area is open and shared
  pub opens_none : (nodes : ℕ) (desk : Desk) (shared : SharedAreas D) → AreShared shared nodes 0 → shared.live.items ≡ [] → OpensAll [] nodes desk desk shared
  opens_none nodes desk shared whole uncounted = record {
    befores = [];
    openings = [];
    out = hands_out_none desk;
    start = open_none (lists_of shared.nodes.items);
    live = record { count = ap length uncounted; each = λ k opening one within. absurd (omega arith) };
    whole = whole;
  }

  -- one area more is open and shared
  pub opens_more : (areas : List BoardArea) (nodes : ℕ) (area : BoardArea) (before : Device) (opening : Opening) (row : List PassView) (old mid new : Desk) (fewer more : SharedAreas D)
      → GivesDisk area.dir area.base before mid new → GoesOnFrom area.rules before opening → ((n : ℕ) → n < nodes → (slice_index_or row n nobody).known ≡ first_known (n + 1) opening)
      → IsDealt (lists_of fewer.nodes.items) row (lists_of more.nodes.items) → AreShared more nodes (length areas + 1)
      → CountsOne opening fewer more → OpensAll areas nodes old mid fewer → OpensAll (areas ++ area ∷ []) nodes old new more
  opens_more areas nodes area before opening row old mid new fewer more gives opens fresh dealt whole counts all =
      let as_many : length (lists_of fewer.nodes.items) ≡ nodes = length-lists_of fewer.nodes.items ∙ all.whole.lists in
      record {
        befores = all.befores ++ before ∷ [];
        openings = all.openings ++ opening ∷ [];
        out = subst (λ (l : List BasePlace). HandsOut l (all.befores ++ before ∷ []) old new) (sym (map_push place_of areas area))
            (hands_out_more (places_of areas) all.befores (place_of area) before old mid new all.out gives);
        start = open_more areas all.befores all.openings (lists_of fewer.nodes.items) area before opening row (lists_of more.nodes.items) (all.out.count ∙ length-map areas place_of)
            (λ n here. all.whole.passes n (omega (arith, here, as_many))) opens (λ n here. fresh n (omega (arith, here, as_many))) dealt all.start;
        live = subst (AreLive (all.openings ++ opening ∷ [])) (sym counts.behind) (live_more all.openings opening fewer.live.items counts.live counts.has all.live);
        whole = subst (AreShared more nodes) (sym (length_push areas area)) whole;
      }

  -- the same at a place of the list
  pub opens_at : (areas : List BoardArea) (nodes k : ℕ) (area : BoardArea) (before : Device) (opening : Opening) (row : List PassView) (old mid new : Desk) (fewer more : SharedAreas D)
      → k < length areas → area ≡ slice_index_or areas k area
      → GivesDisk area.dir area.base before mid new → GoesOnFrom area.rules before opening → ((n : ℕ) → n < nodes → (slice_index_or row n nobody).known ≡ first_known (n + 1) opening)
      → IsDealt (lists_of fewer.nodes.items) row (lists_of more.nodes.items) → AreShared more nodes (k + 1)
      → CountsOne opening fewer more → OpensAll (take k areas) nodes old mid fewer → OpensAll (take (k + 1) areas) nodes old new more
  opens_at areas nodes k area before opening row old mid new fewer more within here gives opens fresh dealt whole counts all =
      let next : take (k + 1) areas ≡ take k areas ++ area ∷ [] = take_more areas k area within ∙ ap (λ (a : BoardArea). take k areas ++ a ∷ []) (sym here) in
      subst (λ (l : List BoardArea). OpensAll l nodes old new more) (sym next)
      (opens_more (take k areas) nodes area before opening row old mid new fewer more gives opens fresh dealt
      (subst (λ (n : ℕ). AreShared more nodes (n + 1)) (sym (length-take-le k areas (omega arith))) whole) counts all)

  -- none of the first is open yet
  pub opens_begin : (areas : List BoardArea) (nodes : ℕ) (desk : Desk) (shared : SharedAreas D) → AreShared shared nodes 0 → shared.live.items ≡ []
      → OpensAll (take (length shared.areas.items) areas) nodes desk desk shared
  opens_begin areas nodes desk shared whole uncounted =
      subst (λ (n : ℕ). OpensAll (take n areas) nodes desk desk shared) (sym whole.areas) (opens_none nodes desk shared whole uncounted)

  -- the host handed the disk of the area out; it is open and shared with so many nodes, which have seen nothing
  pub record OpensOne (area : BoardArea) (nodes : ℕ) (old new : Desk) (one : SharedArea D) (row : List PassView) (live : ℕ) : Type 0 where
    pub before : Device
    pub opening : Opening
    pub gives : GivesDisk area.dir area.base before old new
    pub opens : GoesOnFrom area.rules before opening
    pub fresh : (n : ℕ) → n < nodes → (slice_index_or row n nobody).known ≡ first_known (n + 1) opening
    pub count : length row ≡ nodes
    pub ours : All (IsOf one) row
    pub all : passes_of one ≡ nodes
    pub counts : HasLive live opening.loaded

  -- and it stands behind the others
  pub opens_next : (areas : List BoardArea) (nodes k : ℕ) (area : BoardArea) (one : SharedArea D) (row : List PassView) (live : ℕ) (room : Vec PassView Global) (old mid new : Desk) (fewer more : SharedAreas D)
      → k ≡ length fewer.areas.items → length fewer.areas.items < length areas → area ≡ slice_index_or areas k area → OpensOne area nodes mid new one row live → room.items ≡ [] → nodes ≤ vec_capacity room
      → IsBehind more fewer one row room → more.live.items ≡ fewer.live.items ++ live ∷ [] → AreShared fewer nodes (length fewer.areas.items)
      → OpensAll (take (length fewer.areas.items) areas) nodes old mid fewer → OpensAll (take (length more.areas.items) areas) nodes old new more
  opens_next areas nodes k area one row live room old mid new fewer more place within here opens empty fits behind counted whole all =
      let n = length fewer.areas.items in
      let by : IsSharedBy nodes one row = record { count = opens.count; ours = opens.ours; numbers = λ m low. ap (λ (k : Known). k.node) (opens.fresh m low); all = opens.all } in
      let is_whole : AreShared more nodes (n + 1) = whole_more more fewer one row room nodes n behind by empty fits whole in
      subst (λ (m : ℕ). OpensAll (take m areas) nodes old new more) (sym is_whole.areas)
      (opens_at areas nodes n area opens.before opens.opening row old mid new fewer more within (here ∙ ap (λ (m : ℕ). slice_index_or areas m area) place) opens.gives opens.opens opens.fresh behind.passes is_whole
      (record { live = live; behind = counted; has = opens.counts }) all)
