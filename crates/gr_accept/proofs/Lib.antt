pub mod AcceptedRows
