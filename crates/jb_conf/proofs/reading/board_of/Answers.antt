use Rattle.std.proofs.Common.{◌≡◌, None, inl, inr, [], ◌++◌, refl, ap, ◌∙◌, w32, FitsSigned, rules}
use Rattle.std.proofs.lemmas.Int.{to_z-of_z}
use Rattle.std.proofs.lemmas.Result.{err_from_is_err_and}
use Rattle.jb_conf.specs.Areas.{areas_of}
use Rattle.jb_conf.specs.Settings.{board_fault}
use Rattle.jb_conf.specs.Unknown.{unknown_in, unknown_in_each}
use Rattle.jb_conf.specs.Users.{users_of}
use Rattle.jb_conf.specs.declared.unknown.Sort.TheVariants.{OfArea, OfBoard, OfUser}
use Rattle.toml.specs.View.{table_view}
use Rattle.jb_conf.proofs.Boards.{values_in_range}
use Rattle.jb_conf.proofs.reading.board_of.Goals as goal

pub returns-in_err-name : goal.returns-in_err-name
unfolding board_fault
returns-in_err-name c =
    let p = err_from_is_err_and c.from_residual.result c.from_residual.ensures.1 in
    rw (p.1, p.2) (inl (rw c.in_err-name.ensures refl))

pub returns-in_err-address : goal.returns-in_err-address
unfolding board_fault
returns-in_err-address c =
    let p = err_from_is_err_and c.from_residual-in_err-address.result c.from_residual-in_err-address.ensures.1 in
    rw (p.1, p.2) (inl (rw (c.in_ok-name.ensures.0, c.in_err-address.ensures) refl))

pub returns-in_err-port : goal.returns-in_err-port
unfolding board_fault
returns-in_err-port c =
    let p = err_from_is_err_and c.from_residual-in_err-port.result c.from_residual-in_err-port.ensures.1 in
    rw (p.1, p.2) (inl (rw (c.in_ok-name.ensures.0, c.in_ok-address.ensures.0, c.in_err-port.ensures.row) refl))

pub returns-in_err-nodes : goal.returns-in_err-nodes
unfolding board_fault
returns-in_err-nodes c =
    let p = err_from_is_err_and c.from_residual-in_err-nodes.result c.from_residual-in_err-nodes.ensures.1 in
    rw (p.1, p.2) (inl (rw (c.in_ok-name.ensures.0, c.in_ok-address.ensures.0, c.in_ok-port.ensures.row.0, c.in_err-nodes.ensures.row) refl))

pub returns-in_err-offset : goal.returns-in_err-offset
unfolding board_fault
returns-in_err-offset c =
    let p = err_from_is_err_and c.from_residual-in_err-offset.result c.from_residual-in_err-offset.ensures.1 in
    rw (p.1, p.2) (inl (rw (c.in_ok-name.ensures.0, c.in_ok-address.ensures.0, c.in_ok-port.ensures.row.0, c.in_ok-nodes.ensures.row.0, c.in_err-offset.ensures) refl))

pub returns-in_err-pack_minutes : goal.returns-in_err-pack_minutes
unfolding board_fault
returns-in_err-pack_minutes c =
    let p = err_from_is_err_and c.from_residual-in_err-pack_minutes.result c.from_residual-in_err-pack_minutes.ensures.1 in
    rw (p.1, p.2) (inl (rw (c.in_ok-name.ensures.0, c.in_ok-address.ensures.0, c.in_ok-port.ensures.row.0, c.in_ok-nodes.ensures.row.0, c.in_ok-offset.ensures.0, c.in_err-pack_minutes.ensures.row) refl))

pub returns-in_err-news_port : goal.returns-in_err-news_port
unfolding board_fault
returns-in_err-news_port c =
    let p = err_from_is_err_and c.from_residual-in_err-news_port.result c.from_residual-in_err-news_port.ensures.1 in
    rw (p.1, p.2) (inl (rw (c.in_ok-name.ensures.0, c.in_ok-address.ensures.0, c.in_ok-port.ensures.row.0, c.in_ok-nodes.ensures.row.0, c.in_ok-offset.ensures.0, c.in_ok-pack_minutes.ensures.row.0, ← c.in_ok-port.ensures.row.1, ← c.in_ok-nodes.ensures.row.1, c.in_err-news_port.ensures) refl))

pub returns-in_err-news_level : goal.returns-in_err-news_level
unfolding board_fault
returns-in_err-news_level c =
    let p = err_from_is_err_and c.from_residual-in_err-news_level.result c.from_residual-in_err-news_level.ensures.1 in
    rw (p.1, p.2) (inl (rw (c.in_ok-name.ensures.0, c.in_ok-address.ensures.0, c.in_ok-port.ensures.row.0, c.in_ok-nodes.ensures.row.0, c.in_ok-offset.ensures.0, c.in_ok-pack_minutes.ensures.row.0, ← c.in_ok-port.ensures.row.1, ← c.in_ok-nodes.ensures.row.1, c.in_ok-news_port.ensures.0, c.in_err-news_level.ensures) refl))

pub returns-in_err-area_tables : goal.returns-in_err-area_tables
unfolding board_fault
returns-in_err-area_tables c =
    let p = err_from_is_err_and c.from_residual-in_err-area_tables.result c.from_residual-in_err-area_tables.ensures.1 in
    rw (p.1, p.2) (inl (rw (c.in_ok-name.ensures.0, c.in_ok-address.ensures.0, c.in_ok-port.ensures.row.0, c.in_ok-nodes.ensures.row.0, c.in_ok-offset.ensures.0, c.in_ok-pack_minutes.ensures.row.0, ← c.in_ok-port.ensures.row.1, ← c.in_ok-nodes.ensures.row.1, c.in_ok-news_port.ensures.0, c.in_ok-news_level.ensures.0, c.in_err-area_tables.ensures.row) refl))

pub returns-in_err-user_tables : goal.returns-in_err-user_tables
unfolding board_fault
returns-in_err-user_tables c =
    let p = err_from_is_err_and c.from_residual-in_err-user_tables.result c.from_residual-in_err-user_tables.ensures.1 in
    rw (p.1, p.2) (inl (rw (c.in_ok-name.ensures.0, c.in_ok-address.ensures.0, c.in_ok-port.ensures.row.0, c.in_ok-nodes.ensures.row.0, c.in_ok-offset.ensures.0, c.in_ok-pack_minutes.ensures.row.0, ← c.in_ok-port.ensures.row.1, ← c.in_ok-nodes.ensures.row.1, c.in_ok-news_port.ensures.0, c.in_ok-news_level.ensures.0, c.in_ok-area_tables.ensures.row.0, c.in_err-user_tables.ensures.row) refl))

pub returns-in_err-areas : goal.returns-in_err-areas
unfolding board_fault
returns-in_err-areas c =
    let p = err_from_is_err_and c.from_residual-in_err-areas.result c.from_residual-in_err-areas.ensures.1 in
    let address = c.as_bytes.ensures.value ∙ c.in_ok-address.ensures.1 in
    let tables = c.in_ok-area_tables.ensures.row.1 in
    rw (p.1, p.2) (elim c.in_err-areas.ensures [
      | inl fault ↦ inl (rw (c.in_ok-name.ensures.0, c.in_ok-address.ensures.0, c.in_ok-port.ensures.row.0, c.in_ok-nodes.ensures.row.0, c.in_ok-offset.ensures.0, c.in_ok-pack_minutes.ensures.row.0, ← c.in_ok-port.ensures.row.1, ← c.in_ok-nodes.ensures.row.1, c.in_ok-news_port.ensures.0, c.in_ok-news_level.ensures.0, c.in_ok-area_tables.ensures.row.0, c.in_ok-user_tables.ensures.row.0, ← address, ← tables, fault) refl)
      | inr memory ↦ inr memory
    ])

pub returns-in_err-users : goal.returns-in_err-users
unfolding board_fault
returns-in_err-users c =
    let p = err_from_is_err_and c.from_residual-in_err-users.result c.from_residual-in_err-users.ensures.1 in
    let address = c.as_bytes.ensures.value ∙ c.in_ok-address.ensures.1 in
    let tables = c.in_ok-area_tables.ensures.row.1 in
    let people = c.in_ok-user_tables.ensures.row.1 in
    rw (p.1, p.2) (elim c.in_err-users.ensures [
      | inl fault ↦ inl (rw (c.in_ok-name.ensures.0, c.in_ok-address.ensures.0, c.in_ok-port.ensures.row.0, c.in_ok-nodes.ensures.row.0, c.in_ok-offset.ensures.0, c.in_ok-pack_minutes.ensures.row.0, ← c.in_ok-port.ensures.row.1, ← c.in_ok-nodes.ensures.row.1, c.in_ok-news_port.ensures.0, c.in_ok-news_level.ensures.0, c.in_ok-area_tables.ensures.row.0, c.in_ok-user_tables.ensures.row.0, ← address, ← tables, c.in_ok-areas.ensures.0, ← people, fault) refl)
      | inr memory ↦ inr memory
    ])

pub returns : goal.returns
unfolding board_fault
returns c =
    let address = c.as_bytes.ensures.value ∙ c.in_ok-address.ensures.1 in
    let tables = c.in_ok-area_tables.ensures.row.1 in
    let people = c.in_ok-user_tables.ensures.row.1 in
    let entries = table_view c.args.table.now in
    let small : FitsSigned w32 c.in_ok-offset.offset = search rules in (
      rw (c.in_ok-name.ensures.0, c.in_ok-address.ensures.0, c.in_ok-port.ensures.row.0, c.in_ok-nodes.ensures.row.0, c.in_ok-offset.ensures.0, c.in_ok-pack_minutes.ensures.row.0, ← c.in_ok-port.ensures.row.1, ← c.in_ok-nodes.ensures.row.1, c.in_ok-news_port.ensures.0, c.in_ok-news_level.ensures.0, c.in_ok-area_tables.ensures.row.0, c.in_ok-user_tables.ensures.row.0, ← address, ← tables, c.in_ok-areas.ensures.0, ← people, c.in_ok-users.ensures.0) refl,
      record {
        name = c.in_ok-copy.ensures ∙ c.as_bytes-2.ensures.value ∙ c.in_ok-name.ensures.1;
        address = c.in_ok-copy-2.ensures ∙ c.as_bytes-3.ensures.value ∙ c.in_ok-address.ensures.1;
        port = c.in_ok-port.ensures.row.1;
        nodes = c.in_ok-nodes.ensures.row.1;
        offset = to_z-of_z w32 _ small ∙ c.in_ok-offset.ensures.1;
        pack_minutes = c.in_ok-pack_minutes.ensures.row.1;
        news_port = c.in_ok-news_port.ensures.1;
        news_level = c.in_ok-news_level.ensures.1;
        areas = c.in_ok-areas.ensures.1 ∙ (λ j. areas_of (address j) [] (tables j));
        users = c.in_ok-users.ensures.1 ∙ ap (users_of []) people;
        unknown = c.in_ok-unknown.ensures ∙ (λ j. unknown_in OfBoard 0 entries ++ unknown_in_each OfArea 1 (tables j) ++ unknown_in_each OfUser 1 (people j));
      },
    )

pub invariant_of-result : goal.invariant_of-result
unfolding board_fault
invariant_of-result c =
    let address = c.as_bytes.ensures.value ∙ c.in_ok-address.ensures.1 in
    let tables = c.in_ok-area_tables.ensures.row.1 in
    let people = c.in_ok-user_tables.ensures.row.1 in
    let entries = table_view c.args.table.now in
    let small : FitsSigned w32 c.in_ok-offset.offset = search rules in
    let none : board_fault entries ≡ None = rw (c.in_ok-name.ensures.0, c.in_ok-address.ensures.0, c.in_ok-port.ensures.row.0, c.in_ok-nodes.ensures.row.0, c.in_ok-offset.ensures.0, c.in_ok-pack_minutes.ensures.row.0, ← c.in_ok-port.ensures.row.1, ← c.in_ok-nodes.ensures.row.1, c.in_ok-news_port.ensures.0, c.in_ok-news_level.ensures.0, c.in_ok-area_tables.ensures.row.0, c.in_ok-user_tables.ensures.row.0, ← address, ← tables, c.in_ok-areas.ensures.0, ← people, c.in_ok-users.ensures.0) refl in
    let name = c.in_ok-copy.ensures ∙ c.as_bytes-2.ensures.value ∙ c.in_ok-name.ensures.1 in
    let kept = c.in_ok-copy-2.ensures ∙ c.as_bytes-3.ensures.value ∙ c.in_ok-address.ensures.1 in
    let areas = c.in_ok-areas.ensures.1 ∙ (λ j. areas_of (address j) [] (tables j)) in
    let users = c.in_ok-users.ensures.1 ∙ ap (users_of []) people in
    record {
      in_range = rw (name, kept, c.in_ok-nodes.ensures.row.1, to_z-of_z w32 _ small ∙ c.in_ok-offset.ensures.1, c.in_ok-pack_minutes.ensures.row.1, c.in_ok-news_port.ensures.1, c.in_ok-news_level.ensures.1, areas, users) (values_in_range entries none);
    }
