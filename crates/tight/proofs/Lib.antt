-- The theorems that stand on the numbers and on the paper's sheet.
pub mod Empty
