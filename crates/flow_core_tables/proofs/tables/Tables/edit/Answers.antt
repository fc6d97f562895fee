use Rattle.flow_core_tables.proofs.tables.Tables.edit.Goals as goal

pub returns-in-Opens-clause-tables : goal.returns-in-Opens-clause-tables
returns-in-Opens-clause-tables c = c.«open».ensures.tables c.args.setup.now c.requires.tables

pub returns-in-Writes-clause-tables : goal.returns-in-Writes-clause-tables
returns-in-Writes-clause-tables c = c.write.ensures.tables c.args.setup.now c.requires.tables

pub returns-in-Closes-clause-tables : goal.returns-in-Closes-clause-tables
returns-in-Closes-clause-tables c = c.close.ensures.tables c.args.setup.now c.requires.tables

pub returns-in-Upgrades-clause-tables : goal.returns-in-Upgrades-clause-tables
returns-in-Upgrades-clause-tables c = c.upgrade.ensures.tables c.args.setup.now c.requires.tables
