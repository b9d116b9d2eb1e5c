pub mod CallsPartLaws
pub mod SheetLaws
pub mod StartLaws
pub mod SheetContract
