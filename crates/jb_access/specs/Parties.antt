-- The parties of a message, as the rules of an area see them.
use Rattle.jb_base.specs.Access.{Envelope}
use Rattle.jb_access.specs.declared.parties.Parties.{Parties}

-- what the rules look at of these
abbrev pub envelope : Parties → Envelope
envelope parties = record { sender = parties.from.now; receiver = parties.to.now; attribute = parties.attribute }
