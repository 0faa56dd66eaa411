-- Rules of tables are lawful: of a plain table, of one whose choices end with Ok late, of one that knows more, of a plan that may have all,
-- and of two in one.
pub use Rattle.mdconstructs_tables.proofs.Tables.Joined.{joined-lawful}
pub use Rattle.mdconstructs_tables.proofs.Tables.Knowledge.{knowing-lawful}
pub use Rattle.mdconstructs_tables.proofs.Tables.Late.{late-lawful}
pub use Rattle.mdconstructs_tables.proofs.Tables.Plain.{plain-lawful, writing-lawful}
pub use Rattle.mdconstructs_tables.proofs.Tables.Plans.{planned-lawful}
