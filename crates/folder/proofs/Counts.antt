-- What the count of the rows says of the bytes that they take.
use Rattle.rows.proofs.Rows.{places_fit, row_end, standing_length}

pub ruleset row_counts = (standing_length, places_fit, row_end)
