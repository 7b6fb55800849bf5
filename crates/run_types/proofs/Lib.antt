mod Lists
mod Shapes
mod Choices
