pub mod DeskFiles
