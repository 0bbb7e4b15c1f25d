-- What a cell says.
use Rattle.session_account.specs.declared.cells.Cell.{Cell}
use Rattle.session_account.specs.Forms.{Named}

abbrev pub said : Cell → Named
said c = record { name = c.name.now; value = c.value }
